-- The kinds by number, and the sets of kinds that the builder asks for, by name.
use Rattle.std.specs.Prelude.{ℕ, Bool, false, ◌||◌, List, [], ◌∷◌, ◌++◌, Option, ◌==◌}
use Rattle.std.specs.List.{slice_get}
use Rattle.kinds.specs.declared.kind.Kind.{Kind}
use Rattle.kinds.specs.declared.kind.Kind.TheVariants.{Eof, Undetermined, Skip, HashbangComment, Ident, Await, Break, Case, Catch, Class, Const, Continue, Debugger, Default, Delete, Do, Else, Enum, Export, Extends, Finally, For, Function, If, Import, In, Instanceof, New, Return, Super, Switch, This, Throw, Try, Typeof, Var, Void, While, With, Async, From, Get, Meta, Of, Set, Target, Accessor, Source, Defer, Abstract, As, Asserts, Assert, Any, Boolean, Constructor, Declare, Infer, Intrinsic, Is, KeyOf, Module, Namespace, Never, Out, Readonly, Require, Number, Object, Satisfies, String, Symbol, «Type», Undefined, Unique, Using, Unknown, Global, BigInt, Override, Implements, Interface, Let, Package, Private, Protected, Public, Static, Yield, True, False, Null, Amp, Amp2, Amp2Eq, AmpEq, Bang, Caret, CaretEq, Colon, Comma, Dot, Dot3, Eq, Eq2, Eq3, GtEq, LAngle, LBrack, LCurly, LParen, LtEq, Minus, Minus2, MinusEq, Neq, Neq2, Percent, PercentEq, Pipe, Pipe2, Pipe2Eq, PipeEq, Plus, Plus2, PlusEq, Question, Question2, Question2Eq, QuestionDot, RAngle, RBrack, RCurly, RParen, Semicolon, ShiftLeft, ShiftLeftEq, ShiftRight, ShiftRight3, ShiftRight3Eq, ShiftRightEq, Slash, SlashEq, Star, Star2, Star2Eq, StarEq, Tilde, Arrow, Decimal, Float, Binary, Octal, Hex, PositiveExponential, NegativeExponential, DecimalBigInt, BinaryBigInt, OctalBigInt, HexBigInt, Str, RegExp, NoSubstitutionTemplate, TemplateHead, TemplateMiddle, TemplateTail, PrivateIdentifier, JSXText, At}

-- the number of a kind
abbrev pub number_of : Kind → ℕ
number_of Eof = 0
number_of Undetermined = 1
number_of Skip = 2
number_of HashbangComment = 3
number_of Ident = 4
number_of Await = 5
number_of Break = 6
number_of Case = 7
number_of Catch = 8
number_of Class = 9
number_of Const = 10
number_of Continue = 11
number_of Debugger = 12
number_of Default = 13
number_of Delete = 14
number_of Do = 15
number_of Else = 16
number_of Enum = 17
number_of Export = 18
number_of Extends = 19
number_of Finally = 20
number_of For = 21
number_of Function = 22
number_of If = 23
number_of Import = 24
number_of In = 25
number_of Instanceof = 26
number_of New = 27
number_of Return = 28
number_of Super = 29
number_of Switch = 30
number_of This = 31
number_of Throw = 32
number_of Try = 33
number_of Typeof = 34
number_of Var = 35
number_of Void = 36
number_of While = 37
number_of With = 38
number_of Async = 39
number_of From = 40
number_of Get = 41
number_of Meta = 42
number_of Of = 43
number_of Set = 44
number_of Target = 45
number_of Accessor = 46
number_of Source = 47
number_of Defer = 48
number_of Abstract = 49
number_of As = 50
number_of Asserts = 51
number_of Assert = 52
number_of Any = 53
number_of Boolean = 54
number_of Constructor = 55
number_of Declare = 56
number_of Infer = 57
number_of Intrinsic = 58
number_of Is = 59
number_of KeyOf = 60
number_of Module = 61
number_of Namespace = 62
number_of Never = 63
number_of Out = 64
number_of Readonly = 65
number_of Require = 66
number_of Number = 67
number_of Object = 68
number_of Satisfies = 69
number_of String = 70
number_of Symbol = 71
number_of «Type» = 72
number_of Undefined = 73
number_of Unique = 74
number_of Using = 75
number_of Unknown = 76
number_of Global = 77
number_of BigInt = 78
number_of Override = 79
number_of Implements = 80
number_of Interface = 81
number_of Let = 82
number_of Package = 83
number_of Private = 84
number_of Protected = 85
number_of Public = 86
number_of Static = 87
number_of Yield = 88
number_of True = 89
number_of False = 90
number_of Null = 91
number_of Amp = 92
number_of Amp2 = 93
number_of Amp2Eq = 94
number_of AmpEq = 95
number_of Bang = 96
number_of Caret = 97
number_of CaretEq = 98
number_of Colon = 99
number_of Comma = 100
number_of Dot = 101
number_of Dot3 = 102
number_of Eq = 103
number_of Eq2 = 104
number_of Eq3 = 105
number_of GtEq = 106
number_of LAngle = 107
number_of LBrack = 108
number_of LCurly = 109
number_of LParen = 110
number_of LtEq = 111
number_of Minus = 112
number_of Minus2 = 113
number_of MinusEq = 114
number_of Neq = 115
number_of Neq2 = 116
number_of Percent = 117
number_of PercentEq = 118
number_of Pipe = 119
number_of Pipe2 = 120
number_of Pipe2Eq = 121
number_of PipeEq = 122
number_of Plus = 123
number_of Plus2 = 124
number_of PlusEq = 125
number_of Question = 126
number_of Question2 = 127
number_of Question2Eq = 128
number_of QuestionDot = 129
number_of RAngle = 130
number_of RBrack = 131
number_of RCurly = 132
number_of RParen = 133
number_of Semicolon = 134
number_of ShiftLeft = 135
number_of ShiftLeftEq = 136
number_of ShiftRight = 137
number_of ShiftRight3 = 138
number_of ShiftRight3Eq = 139
number_of ShiftRightEq = 140
number_of Slash = 141
number_of SlashEq = 142
number_of Star = 143
number_of Star2 = 144
number_of Star2Eq = 145
number_of StarEq = 146
number_of Tilde = 147
number_of Arrow = 148
number_of Decimal = 149
number_of Float = 150
number_of Binary = 151
number_of Octal = 152
number_of Hex = 153
number_of PositiveExponential = 154
number_of NegativeExponential = 155
number_of DecimalBigInt = 156
number_of BinaryBigInt = 157
number_of OctalBigInt = 158
number_of HexBigInt = 159
number_of Str = 160
number_of RegExp = 161
number_of NoSubstitutionTemplate = 162
number_of TemplateHead = 163
number_of TemplateMiddle = 164
number_of TemplateTail = 165
number_of PrivateIdentifier = 166
number_of JSXText = 167
number_of At = 168

-- the kinds in the order of their numbers
abbrev pub kinds : List Kind
kinds =
    Eof ∷ Undetermined ∷ Skip ∷ HashbangComment ∷ Ident ∷ Await ∷ Break ∷ Case ∷ Catch ∷ Class ∷ Const ∷
    Continue ∷ Debugger ∷ Default ∷ Delete ∷ Do ∷ Else ∷ Enum ∷ Export ∷ Extends ∷ Finally ∷ For ∷ Function ∷
    If ∷ Import ∷ In ∷ Instanceof ∷ New ∷ Return ∷ Super ∷ Switch ∷ This ∷ Throw ∷ Try ∷ Typeof ∷ Var ∷ Void ∷
    While ∷ With ∷ Async ∷ From ∷ Get ∷ Meta ∷ Of ∷ Set ∷ Target ∷ Accessor ∷ Source ∷ Defer ∷ Abstract ∷ As ∷
    Asserts ∷ Assert ∷ Any ∷ Boolean ∷ Constructor ∷ Declare ∷ Infer ∷ Intrinsic ∷ Is ∷ KeyOf ∷ Module ∷
    Namespace ∷ Never ∷ Out ∷ Readonly ∷ Require ∷ Number ∷ Object ∷ Satisfies ∷ String ∷ Symbol ∷ «Type» ∷
    Undefined ∷ Unique ∷ Using ∷ Unknown ∷ Global ∷ BigInt ∷ Override ∷ Implements ∷ Interface ∷ Let ∷ Package ∷
    Private ∷ Protected ∷ Public ∷ Static ∷ Yield ∷ True ∷ False ∷ Null ∷ Amp ∷ Amp2 ∷ Amp2Eq ∷ AmpEq ∷ Bang ∷
    Caret ∷ CaretEq ∷ Colon ∷ Comma ∷ Dot ∷ Dot3 ∷ Eq ∷ Eq2 ∷ Eq3 ∷ GtEq ∷ LAngle ∷ LBrack ∷ LCurly ∷ LParen ∷
    LtEq ∷ Minus ∷ Minus2 ∷ MinusEq ∷ Neq ∷ Neq2 ∷ Percent ∷ PercentEq ∷ Pipe ∷ Pipe2 ∷ Pipe2Eq ∷ PipeEq ∷
    Plus ∷ Plus2 ∷ PlusEq ∷ Question ∷ Question2 ∷ Question2Eq ∷ QuestionDot ∷ RAngle ∷ RBrack ∷ RCurly ∷
    RParen ∷ Semicolon ∷ ShiftLeft ∷ ShiftLeftEq ∷ ShiftRight ∷ ShiftRight3 ∷ ShiftRight3Eq ∷ ShiftRightEq ∷
    Slash ∷ SlashEq ∷ Star ∷ Star2 ∷ Star2Eq ∷ StarEq ∷ Tilde ∷ Arrow ∷ Decimal ∷ Float ∷ Binary ∷ Octal ∷ Hex ∷
    PositiveExponential ∷ NegativeExponential ∷ DecimalBigInt ∷ BinaryBigInt ∷ OctalBigInt ∷ HexBigInt ∷ Str ∷
    RegExp ∷ NoSubstitutionTemplate ∷ TemplateHead ∷ TemplateMiddle ∷ TemplateTail ∷ PrivateIdentifier ∷
    JSXText ∷ At ∷ []

-- the kind that has a number, if one does
unfoldable pub kind_of : ℕ → Option Kind
kind_of n = slice_get kinds n

-- whether a number is that of a kind of the list
abbrev pub among : List Kind → ℕ → Bool
among [] n = false
among (k ∷ ks) n = n == number_of k || among ks n

-- an IdentifierName that is no ReservedWord
abbrev pub identifiers : List Kind
identifiers =
    Ident ∷ Async ∷ From ∷ Get ∷ Meta ∷ Of ∷ Set ∷ Target ∷ Accessor ∷ Source ∷ Defer ∷ Abstract ∷ As ∷
    Asserts ∷ Assert ∷ Any ∷ Boolean ∷ Constructor ∷ Declare ∷ Infer ∷ Intrinsic ∷ Is ∷ KeyOf ∷ Module ∷
    Namespace ∷ Never ∷ Out ∷ Readonly ∷ Require ∷ Number ∷ Object ∷ Satisfies ∷ String ∷ Symbol ∷ «Type» ∷
    Undefined ∷ Unique ∷ Using ∷ Unknown ∷ Global ∷ BigInt ∷ Override ∷ Implements ∷ Interface ∷ Let ∷
    Package ∷ Private ∷ Protected ∷ Public ∷ Static ∷ []

-- null, the Boolean literals, strings, regular expressions and numbers
abbrev pub literals : List Kind
literals =
    Null ∷ True ∷ False ∷ Str ∷ RegExp ∷ Decimal ∷ Float ∷ Binary ∷ Octal ∷ Hex ∷ PositiveExponential ∷
    NegativeExponential ∷ DecimalBigInt ∷ BinaryBigInt ∷ OctalBigInt ∷ HexBigInt ∷ []

-- what else can be the last token of an expression
abbrev pub other_ends : List Kind
other_ends =
    PrivateIdentifier ∷ This ∷ Super ∷ RParen ∷ RBrack ∷ RCurly ∷ RAngle ∷ Plus2 ∷ Minus2 ∷
    NoSubstitutionTemplate ∷ TemplateTail ∷ JSXText ∷ []

abbrev pub expression_ends : List Kind
expression_ends = identifiers ++ (literals ++ other_ends)

abbrev pub binary_operators : List Kind
binary_operators =
    Eq2 ∷ Neq ∷ Eq3 ∷ Neq2 ∷ LAngle ∷ LtEq ∷ RAngle ∷ GtEq ∷ ShiftLeft ∷ ShiftRight ∷ ShiftRight3 ∷ Plus ∷
    Minus ∷ Star ∷ Slash ∷ Percent ∷ Pipe ∷ Caret ∷ Amp ∷ In ∷ Instanceof ∷ Star2 ∷ []

abbrev pub logical_operators : List Kind
logical_operators =
    Pipe2 ∷ Amp2 ∷ Question2 ∷ []

abbrev pub assignment_operators : List Kind
assignment_operators =
    Eq ∷ PlusEq ∷ MinusEq ∷ StarEq ∷ SlashEq ∷ PercentEq ∷ ShiftLeftEq ∷ ShiftRightEq ∷ ShiftRight3Eq ∷
    Pipe2Eq ∷ Amp2Eq ∷ PipeEq ∷ CaretEq ∷ AmpEq ∷ Question2Eq ∷ Star2Eq ∷ []

abbrev pub infix_operators : List Kind
infix_operators = binary_operators ++ (logical_operators ++ assignment_operators)

abbrev pub line_comment_leads : List Kind
line_comment_leads = Eq ∷ LParen ∷ Colon ∷ []

unfoldable pub can_end_expression : Kind → Bool
can_end_expression k = among expression_ends (number_of k)

unfoldable pub continues_previous_expression : Kind → Bool
continues_previous_expression k = among infix_operators (number_of k)

unfoldable pub keeps_line_comment_leading : Kind → Bool
keeps_line_comment_leading k = among line_comment_leads (number_of k)
