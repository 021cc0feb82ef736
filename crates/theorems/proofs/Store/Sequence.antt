-- Entries in sequence: one more behind them, and what they share.
use mathlib.Core.Bool.{Bool, true, false, cond}
use mathlib.Core.List.{List, [], ◌∷◌, ◌++◌}
use mathlib.Core.Path.{◌≡◌, refl, sym, ap, ◌∙◌}
use Prim.Native.Nat.{ℕ}
use borrow.Author.Tests.{eq-eqb, eqb-true}
use lib.Dec.{ltb}
use Rattle.definitions.specs.declared.Settings.{Settings}
use Rattle.definitions.specs.Lists.{all, filter, every}
use Rattle.definitions.specs.Checked.{Checked, value, refused}
use Rattle.definitions_close.specs.Store.{Entry, keeps, follows, in_sequence, last_of, of_last, entry_for}
use Rattle.laws.proofs.Checked.{not_value, value_same}
use Rattle.laws.proofs.Tests.{both, test}

-- An entry that follows the last one

pub follows-last : (new : Entry) (m : Checked Entry) → of_last (λ e. ltb e.start new.start) m ≡ true → of_last (λ e. keeps e.rules.settings new.rules.settings) m ≡ true → of_last (λ e. follows e new) m ≡ true
unfolding of_last follows
follows-last new (value e) p q = rw (p, q)
follows-last new (refused r) p q = refl

pub sequence-append : (es : List Entry) (new : Entry) → in_sequence es ≡ true → of_last (λ e. follows e new) (last_of es) ≡ true → in_sequence (es ++ (new ∷ [])) ≡ true
unfolding in_sequence last_of of_last
sequence-append [] new p q = refl
sequence-append (e ∷ []) new p q = rw q
sequence-append (e ∷ f ∷ es) new p q =
    let b = both (follows e f) (in_sequence (f ∷ es)) p in
    rw b.0 (sequence-append (f ∷ es) new b.1 q)

-- slots_per_epoch, S and L are the same in all

pub record Same (s t : Settings) : Type 0 where
  pub slots : s.slots_per_epoch ≡ t.slots_per_epoch
  pub roots : s.slots_per_historical_root ≡ t.slots_per_historical_root
  pub slashings : s.epochs_per_slashings_vector ≡ t.epochs_per_slashings_vector

pub keeps_same : (s t : Settings) → keeps s t ≡ true → Same s t
unfolding keeps
keeps_same s t h =
    let same = test _ h in
    record { slots = eqb-true _ _ (same 0); roots = eqb-true _ _ (same 1); slashings = eqb-true _ _ (same 2) }

same-keeps : (s t : Settings) → Same s t → keeps s t ≡ true
unfolding keeps every
same-keeps s t h = rw (eq-eqb _ _ h.slots, eq-eqb _ _ h.roots, eq-eqb _ _ h.slashings)

keeps_self : (s : Settings) → keeps s s ≡ true
keeps_self s = same-keeps s s (record { slots = refl; roots = refl; slashings = refl })

keeps-both : (s t u : Settings) → keeps s t ≡ true → keeps t u ≡ true → keeps s u ≡ true
keeps-both s t u p q =
    let a = keeps_same s t p in
    let b = keeps_same t u q in
    same-keeps s u (record { slots = a.slots ∙ b.slots; roots = a.roots ∙ b.roots; slashings = a.slashings ∙ b.slashings })

abbrev same_as : Entry → Entry → Bool
same_as last e = keeps e.rules.settings last.rules.settings

-- each has what the last one has
each_same : (es : List Entry) (last : Entry) → in_sequence es ≡ true → last_of es ≡ value last → all (same_as last) es ≡ true
unfolding in_sequence last_of all follows
each_same [] last p q = refl
each_same (e ∷ []) last p q = rw (value_same q, keeps_self last.rules.settings)
each_same (e ∷ f ∷ es) last p q =
    let b = both (follows e f) (in_sequence (f ∷ es)) p in
    let rest = each_same (f ∷ es) last b.1 q in
    let r = both (same_as last f) (all (same_as last) es) rest in
    let h = keeps-both e.rules.settings f.rules.settings last.rules.settings (both (ltb e.start f.start) (keeps e.rules.settings f.rules.settings) b.0).1 r.0 in
    rw h rest

-- what holds of all holds of those that are picked, and of the last of them

all_filter : {A : Type 0} (p q : A → Bool) (es : List A) → all p es ≡ true → all p (filter q es) ≡ true
unfolding all filter
all_filter p q [] h = refl
all_filter p q (e ∷ es) h =
    let b = both (p e) (all p es) h in
    go (q e) b.0 (all_filter p q es b.1)
  where
    go : (t : Bool) → p e ≡ true → all p (filter q es) ≡ true → all p (cond t (e ∷ filter q es) (filter q es)) ≡ true
    go true h k = rw (h, k)
    go false h k = k

all-last : (p : Entry → Bool) (es : List Entry) {f : Entry} → all p es ≡ true → last_of es ≡ value f → p f ≡ true
unfolding all last_of
all-last p [] h e = absurd (not_value e)
all-last p (g ∷ []) {f} h e = sym (ap p (value_same e)) ∙ (both (p g) true h).0
all-last p (g ∷ k ∷ es) h e = all-last p (k ∷ es) (both (p g) (all p (k ∷ es)) h).1 e

-- so does the entry of an epoch
pub all_read : (p : Entry → Bool) (epoch : ℕ) (es : List Entry) {f : Entry} → all p es ≡ true → entry_for epoch es ≡ value f → p f ≡ true
unfolding entry_for
all_read p epoch es h e = all-last p _ (all_filter p _ es h) e

pub read_same : (epoch : ℕ) (es : List Entry) (last : Entry) {f : Entry} → in_sequence es ≡ true → last_of es ≡ value last → entry_for epoch es ≡ value f → Same f.rules.settings last.rules.settings
read_same epoch es last {f} p q e = keeps_same f.rules.settings last.rules.settings (all_read (same_as last) epoch es (each_same es last p q) e)
