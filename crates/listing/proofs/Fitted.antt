-- A listing that fits is written whole.
use Rattle.std.proofs.Common.{◌≡◌, ℕ, ◌<◌, ◌≤◌, min, Bool, cond, List, ◌++◌, length, drop, None, Ok, Err, Option, Result, sym, ap, ◌∙◌, arith, le-ltb}
use Rattle.refusals.specs.declared.Refusal.{Refusal}
use Rattle.refusals.specs.declared.Refusal.TheVariants.{ListingTooLong}
use Rattle.listing.specs.Bytes.{laid}
use Rattle.listing.specs.Listing.{most, listed}
use Rattle.listing.proofs.Laid.{laid_whole}

pub fitted : (o : Option Refusal) (bytes buffer after : List ℕ) (m : ℕ) → None ≡ o → m ≡ min (length bytes) most → m ≤ length buffer → length buffer < most → after ≡ laid buffer 0 bytes → (Ok m ≡ listed o bytes (length buffer)) × (after ≡ bytes ++ drop (length bytes) buffer)
fitted o bytes buffer after m unrefused is fits room written =
    let same : m ≡ length bytes = omega (arith, is) in
    let answer : Ok m ≡ listed None bytes (length buffer) = ap (λ (n : ℕ). Ok n) same ∙ ap (λ (b : Bool). cond {A = Result ℕ Refusal} b (Err ListingTooLong) (Ok (length bytes))) (sym (le-ltb (length buffer) (length bytes) (omega arith))) in
    (answer ∙ ap (λ (x : Option Refusal). listed x bytes (length buffer)) unrefused, written ∙ laid_whole buffer bytes (omega arith))
