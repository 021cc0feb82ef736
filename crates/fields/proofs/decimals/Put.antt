-- Text put behind text.
use mathlib.Core.List.{List, [], ◌∷◌, ◌++◌}
use mathlib.Core.Path.{◌≡◌, refl, sym, ap, ◌∙◌}
use Prim.Native.Nat.{ℕ, ◌+◌}
use native.Mathlib.Omega.{arith}
use lib.ListN.{length, set, length-append}
use lib.Seq.{sets, length-sets}
use Rattle.fields.proofs.Stores.{sets-append}
use Rattle.fields.specs.Put.{Put}

pub put : (before : List ℕ) (at : ℕ) (text : List ℕ) {after : List ℕ} → after ≡ sets before at text → Put before at text after (at + length text)
put before at text e = record { held = e; stopped = refl }

module _ {before : List ℕ} {at : ℕ} {text middle : List ℕ} {i : ℕ} (p : Put before at text middle i) where
  pub put-more : {more after : List ℕ} {end : ℕ} → Put middle i more after end → Put before at (text ++ more) after end
  put-more {more} q =
      record {
        held = q.held ∙ rw (p.held, p.stopped) (sym (sets-append before at text more));
        stopped = q.stopped ∙ omega (arith, p.stopped, length-append text more);
      }

  pub put_byte : (b : ℕ) → Put before at (text ++ (b ∷ [])) (set middle i b) (i + 1)
  put_byte b = put-more (put middle i (b ∷ []) refl)

  pub put-length : length middle ≡ length before
  put-length = ap length p.held ∙ length-sets before at text
