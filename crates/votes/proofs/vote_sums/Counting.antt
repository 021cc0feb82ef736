-- The pass that works out the five sums at once.
use mathlib.Core.Path.{◌≡◌, refl, sym, ap, ◌∙◌}
use mathlib.Core.Bool.{Bool, true, false}
use mathlib.Core.List.{List, map}
use Prim.Native.Nat.{ℕ, ◌+◌, ◌*◌, ◌^◌, ◌≤◌, ◌<◌}
use native.Mathlib.Omega.{arith}
use borrow.Author.Tests.{ltb-true, ltb-false}
use lib.Dec.{ltb}
use lib.ListN.{length, get_or, length-map, get_or-map}
use Rattle.definitions.specs.Checked.{Checked, value, refused, bind, add64}
use Rattle.definitions.specs.declared.Refusal.{Refusal}
use Rattle.definitions.specs.declared.Refusal.TheVariants.{Overflow}
use Rattle.definitions.specs.Record.{Validator, decode_one, decode, nobody}
use Rattle.laws.proofs.Checked.{not_value, value_same, refused_same, bound, add64-value, add64-below}
use Rattle.laws.proofs.Encode.{length-decode}
use Rattle.arithmetic.proofs.Operations.{OnlyOverflow, only-bind, only-add64, only-value}
use Rattle.laws.proofs.Loops.Entry.{entry_at}
use Rattle.laws.proofs.Loops.Reading.{Reading, reading_none, reading_more, reading_is}
use Rattle.laws.proofs.Loops.Summed.{Added, added_none, added_more, added-over, added-all}
use Rattle.definitions_votes.specs.Filling.{Filling, none_set, all_set, filled_one, filled}
use Rattle.definitions_votes.proofs.Filled.{length-filled, filled_at}
use Rattle.votes.specs.declared.vote_sums.VoteSums.{VoteSums}
use Rattle.votes.specs.Sums.{weight, active_at, hits_target, vote_sums_of, added_to, sum_in, PlainSums, Counted}
use Rattle.laws.proofs.Fits.{add64-fits}

-- one weight of the filled registry
abbrev weights : (Validator → Bool) → List ℕ → Filling → List ℕ → List ℕ
weights p marks f xs = map (weight p) (filled marks f (decode xs))

-- One sum of the five: `total` of the first i
pub record Summing (p : Validator → Bool) (f : Filling) (n : ℕ) (xs marks : List ℕ) (i total : ℕ) : Type 0 where
  pub at : Reading n xs i
  pub held : Added (weights p marks f xs) i total

sum-none : (p : Validator → Bool) (f : Filling) {n : ℕ} {xs : List ℕ} (marks : List ℕ) → length xs ≡ 10 * n → Summing p f n xs marks 0 0
sum-none p f {n} {xs} marks h = record { at = reading_none h; held = added_none (weights p marks f xs) }

module _ {p : Validator → Bool} {f : Filling} {n : ℕ} {xs marks : List ℕ} {i total : ℕ} (g : Summing p f n xs marks i total) where
  long : length (weights p marks f xs) ≡ n
  long = length-map (filled marks f (decode xs)) (weight p) ∙ length-filled marks f (decode xs) ∙ length-decode n xs g.at.long

  sum-all : n ≤ i → sum_in p marks f (decode xs) ≡ value total
  sum-all l = added-all g.held (omega (arith, long))

  -- this validator's part is x
  module _ (l : i < n) {x : ℕ} (e : x ≡ weight p (filled_one (get_or marks i 0) (f i) (decode_one (entry_at xs i)))) where
    here : x ≡ get_or (weights p marks f xs) i (weight p nobody)
    here =
        e ∙ ap (λ (v : Validator). weight p (filled_one (get_or marks i 0) (f i) v)) (reading_is g.at l)
        ∙ ap (weight p) (sym (filled_at marks f (decode xs) i (omega (arith, length-decode n xs g.at.long))))
        ∙ sym (get_or-map (weight p) (filled marks f (decode xs)) i nobody)

    sum_more : {t : ℕ} → add64 total x ≡ value t → Summing p f n xs marks (i + 1) t
    sum_more h = record { at = reading_more g.at l; held = added_more g.held (omega (arith, long)) (weight p nobody) here (sym (add64-value total x h)) (rw (← add64-value total x h) (add64-below total x h)) }

    -- where the whole sum fits, so does this one
    sum_fits : {b : ℕ} → sum_in p marks f (decode xs) ≡ value b → add64 total x ≡ value (total + x)
    sum_fits {b} h = go (ltb (total + x) (2 ^ 64)) refl
      where
        go : (t : Bool) → ltb (total + x) (2 ^ 64) ≡ t → add64 total x ≡ value (total + x)
        go true k = add64-fits total x (ltb-true _ _ k)
        go false k = absurd (not_value (sym (added-over g.held (omega (arith, long)) (weight p nobody) here (ltb-false _ _ k)) ∙ h))

-- the five sums of two, each in its own place
record Each (t own u : VoteSums) : Type 0 where
  pub active : add64 t.active own.active ≡ value u.active
  pub previous_fewest : add64 t.previous_fewest own.previous_fewest ≡ value u.previous_fewest
  pub previous_most : add64 t.previous_most own.previous_most ≡ value u.previous_most
  pub current_fewest : add64 t.current_fewest own.current_fewest ≡ value u.current_fewest
  pub current_most : add64 t.current_most own.current_most ≡ value u.current_most

added-each : (t own : VoteSums) {u : VoteSums} → added_to t own ≡ value u → Each t own u
unfolding added_to
added-each t own {u} h =
    let a = bound (add64 t.active own.active) _ h in
    let b = bound (add64 t.previous_fewest own.previous_fewest) _ a.then in
    let c = bound (add64 t.previous_most own.previous_most) _ b.then in
    let d = bound (add64 t.current_fewest own.current_fewest) _ c.then in
    let e = bound (add64 t.current_most own.current_most) _ d.then in
    let same = value_same e.then in
    record {
      active = a.gave ∙ ap (λ (r : VoteSums). value r.active) same;
      previous_fewest = b.gave ∙ ap (λ (r : VoteSums). value r.previous_fewest) same;
      previous_most = c.gave ∙ ap (λ (r : VoteSums). value r.previous_most) same;
      current_fewest = d.gave ∙ ap (λ (r : VoteSums). value r.current_fewest) same;
      current_most = e.gave ∙ ap (λ (r : VoteSums). value r.current_most) same;
    }

each-added : (t own : VoteSums) {u : VoteSums} → Each t own u → added_to t own ≡ value u
unfolding added_to bind
each-added t own a = rw (a.active, a.previous_fewest, a.previous_most, a.current_fewest, a.current_most)

-- The sums t of the first i
pub record Counting (current previous n : ℕ) (xs marks : List ℕ) (i : ℕ) (t : VoteSums) : Type 0 where
  pub active : Summing (active_at current) none_set n xs marks i t.active
  pub previous_fewest : Summing (hits_target current previous) none_set n xs marks i t.previous_fewest
  pub previous_most : Summing (hits_target current previous) all_set n xs marks i t.previous_most
  pub current_fewest : Summing (hits_target current current) none_set n xs marks i t.current_fewest
  pub current_most : Summing (hits_target current current) all_set n xs marks i t.current_most

pub counting_none : (current previous : ℕ) {n : ℕ} {xs : List ℕ} (marks : List ℕ) → length xs ≡ 10 * n → Counting current previous n xs marks 0 (record { active = 0; previous_fewest = 0; previous_most = 0; current_fewest = 0; current_most = 0 })
counting_none current previous marks h = record { active = sum-none _ _ marks h; previous_fewest = sum-none _ _ marks h; previous_most = sum-none _ _ marks h; current_fewest = sum-none _ _ marks h; current_most = sum-none _ _ marks h }

module _ {current previous n : ℕ} {xs marks : List ℕ} {i : ℕ} {t : VoteSums} (g : Counting current previous n xs marks i t) where
  pub counting_at : Reading n xs i
  counting_at = g.active.at

  pub counting_all : n ≤ i → PlainSums current previous marks (decode xs) t
  counting_all l =
      record {
        active = sum-all g.active l;
        previous_fewest = sum-all g.previous_fewest l;
        previous_most = sum-all g.previous_most l;
        current_fewest = sum-all g.current_fewest l;
        current_most = sum-all g.current_most l;
      }

  module _ (l : i < n) {own : VoteSums} (e : own ≡ vote_sums_of current previous (get_or marks i 0) (decode_one (entry_at xs i))) where
    part : (f : VoteSums → ℕ) → f own ≡ f (vote_sums_of current previous (get_or marks i 0) (decode_one (entry_at xs i)))
    part f = ap f e

    pub counting_more : {u : VoteSums} → added_to t own ≡ value u → Counting current previous n xs marks (i + 1) u
    counting_more h =
        let a = added-each t own h in
        record {
          active = sum_more g.active l (part (λ r. r.active)) a.active;
          previous_fewest = sum_more g.previous_fewest l (part (λ r. r.previous_fewest)) a.previous_fewest;
          previous_most = sum_more g.previous_most l (part (λ r. r.previous_most)) a.previous_most;
          current_fewest = sum_more g.current_fewest l (part (λ r. r.current_fewest)) a.current_fewest;
          current_most = sum_more g.current_most l (part (λ r. r.current_most)) a.current_most;
        }

    -- where the sums exist, this validator's part can be added
    pub counting_over : {q : Refusal} → added_to t own ≡ refused q → (u : VoteSums) → PlainSums current previous marks (decode xs) u → ⊥
    counting_over h u s =
        not_value (sym h ∙ each-added t own (record {
          active = sum_fits g.active l (part (λ r. r.active)) s.active;
          previous_fewest = sum_fits g.previous_fewest l (part (λ r. r.previous_fewest)) s.previous_fewest;
          previous_most = sum_fits g.previous_most l (part (λ r. r.previous_most)) s.previous_most;
          current_fewest = sum_fits g.current_fewest l (part (λ r. r.current_fewest)) s.current_fewest;
          current_most = sum_fits g.current_most l (part (λ r. r.current_most)) s.current_most;
        }))

-- only overflow refuses
only-added : (t own : VoteSums) {p : Refusal} → added_to t own ≡ refused p → p ≡ Overflow
unfolding added_to
only-added t own {p} e =
    let o : OnlyOverflow (added_to t own) = only-bind (only-add64 _ _) (λ a. only-bind (only-add64 _ _) (λ b. only-bind (only-add64 _ _) (λ c. only-bind (only-add64 _ _) (λ d. only-bind (only-add64 _ _) (λ e. only-value _))))) in
    o.why p e

-- what the loop returns
module _ {current previous : ℕ} {marks : List ℕ} {vs : List Validator} where
  pub counted-value : {t : VoteSums} → PlainSums current previous marks vs t → Counted current previous marks vs (value t)
  counted-value s = record { given = λ u e. rw (← value_same e) s; why = λ p e. absurd (not_value (sym e)); over = λ p e u z. not_value (sym e) }

  pub counted-refused : (t own : VoteSums) {p : Refusal} {r : Checked VoteSums} → added_to t own ≡ refused p → ((u : VoteSums) → PlainSums current previous marks vs u → ⊥) → r ≡ refused p → Counted current previous marks vs r
  counted-refused t own {p} e n h = record { given = λ u d. absurd (not_value (sym h ∙ d)); why = λ q d. refused_same (sym d ∙ h) ∙ only-added t own e; over = λ q d u s. n u s }
