-- Demand 3 of lists of closes of any fork: each accepted one joins the claim, Altair's to Deneb's as before, and Electra's by its ten steps.
use mathlib.Core.Path.{◌≡◌, refl, sym, ap, ◌∙◌, subst, subst₂}
use mathlib.Core.Logic.{◌⊎◌, inl, inr}
use mathlib.Core.Bool.{Bool, true, false, cond, ◌&&◌}
use mathlib.Core.List.{List, [], ◌∷◌, ◌++◌, map}
use Prim.Native.Nat.{ℕ, ◌+◌, ◌*◌, ◌^◌, ◌<◌}
use native.Mathlib.Nat.{div-le_self}
use native.Mathlib.Omega.{arith}
use borrow.Author.Tests.{ltb-true, eqb-true}
use lib.Dec.{T, ltb}
use lib.ListN.{length, take}
use lib.Seq.{take-append_seam}
use Rattle.definitions.specs.declared.Finality.{Finality}
use Rattle.definitions.specs.Record.{Validator, encode, decode, FAR_FUTURE_EPOCH as FAR}
use Rattle.definitions.specs.Updates.{with_finality, with_validators}
use Rattle.definitions.specs.Checked.{Checked, value, refused}
use Rattle.definitions.specs.Refusals.{after_tests, good_finality}
use Rattle.definitions.specs.Rust.Phase0.Helpers.{compute_epoch_at_slot, get_current_epoch}
use Rattle.laws.proofs.Bounds.{setting_small}
use Rattle.laws.proofs.Checked.{number_not_zero, value_same, bound}
use Rattle.laws.proofs.Encode.{length-encode, decode-encode}
use Rattle.laws.proofs.Tests.{test, in_order-value}
use Rattle.definitions_electra.specs.Record.{ElectraState}
use Rattle.definitions_electra.specs.Refusals.{good_electra}
use Rattle.definitions_electra_close.specs.Close.{ElectraCall, electra_state_of, electra_tests, electra_closed, electra_answer, electra_close}
use Rattle.history.specs.Events.{activation, Event, accepts}
use Rattle.history.proofs.Waiting.{waits_in, waits, ahead, activation_at}
use Rattle.history.proofs.Order.{Waits, from-waits}
use Rattle.history.proofs.Shape.{Marked, Shaped}
use Rattle.history.proofs.OneClose.{close-order}
use Rattle.history.proofs.Induction as induction
use Rattle.history.proofs.Premises.{through}
use Rattle.theorems.proofs.StoreHistory.Demand3.{any-shaped}
use Rattle.theorems_deneb.specs.Demand3 as deneb
use Rattle.theorems_deneb.proofs.Demand3.{deneb-shaped}
use Rattle.theorems_electra_close.proofs.ByNumber.{electra_close-call}
use Rattle.theorems_electra_close.proofs.Call.{accounted-call}
use Rattle.history_forks.specs.Demand3.{electra_event, AnyClose, earlier, electra, event_of, accepted_electra, Demand3}
use Rattle.history_forks.proofs.Order.{Each, Moves, Ordering, in_order_lem}
use Rattle.history_forks.proofs.Grown.{Grown, none-added, grown-claim}
use Rattle.history_forks.proofs.Steps.{onward}
use Rattle.history_forks.proofs.Electra.{Electra, electra-grown, everybody}
use Rattle.history_forks.proofs.Next.{Known, closes, handed, next-electra}

-- An Electra close

pub closed_at : (c : ElectraCall) → (electra_close c).answer.refusal ≡ 0 → (st : ElectraState) × (electra_closed c ≡ value st)
unfolding electra_close electra_answer
closed_at c z = go (electra_closed c) z
  where
    go : (m : Checked ElectraState) → (electra_answer c m).refusal ≡ 0 → (st : ElectraState) × (m ≡ value st)
    go (value st) z = (st, refl)
    go (refused p) z = absurd (number_not_zero p z)

-- its tests keep slot and lookahead small
small : (c : ElectraCall) {u : Unit {0}} → electra_tests c ≡ value u → (c.finality.slot < 2 ^ 48) × (c.rules.settings.max_seed_lookahead < 2 ^ 48)
unfolding electra_tests good_electra good_finality
small c t =
    let p = in_order-value _ _ _ t in
    (ltb-true _ _ (test _ (p.recorded 0) 0), setting_small c.rules.settings (test _ (p.settings 0) 0) 14 (omega arith))

-- at the front of a closing registry
front : (vs : List Validator) (ys : List ℕ) (n : ℕ) → n ≡ length vs → decode (take (10 * n) (encode vs ++ ys)) ≡ vs
front vs ys n e =
    let m : 10 * n ≡ length (encode vs) = omega (arith, e, length-encode vs) in
    ap (λ (k : ℕ). decode (take k (encode vs ++ ys))) m ∙ ap decode (take-append_seam (encode vs) ys) ∙ decode-encode vs

module _ (w : Bool) (c : ElectraCall) where
  abbrev returning : Finality → List Validator → Event
  returning f vs =
      let e = electra_event w c (electra_close c) in
      record {
        opening = e.opening;
        returned = with_finality f (with_validators vs e.returned);
        refusal = e.refusal;
        epoch = e.epoch;
        lookahead = e.lookahead;
        churn = e.churn;
        others_stay = w;
      }

  electra-event : accepts (electra_event w c (electra_close c)) ≡ true → Electra (electra_event w c (electra_close c))
  unfolding electra_closed after_tests get_current_epoch compute_epoch_at_slot
  electra-event t =
      let z = eqb-true _ _ t in
      let a = (electra_close-call c).accepted z in
      let e = closed_at c z in
      let b = bound _ _ e.1 in
      let same = value_same (sym b.then ∙ a.gave) in
      let more = (accounted-call c a.state (e.1 ∙ ap value same)).law.added in
      let on = onward c.rules (electra_state_of c) a.gave in
      let bounds = small c b.gave in
      let written = ap (λ (xs : List ℕ). decode (take (10 * (electra_close c).answer.validators) xs)) a.registry ∙ front a.state.altair.validators _ _ a.validators in
      subst₂ (λ (f : Finality) (vs : List Validator). Electra (returning f vs)) (sym a.finality) (sym written)
      (record {
        fits = omega (arith, bounds.0, bounds.1, div-le_self c.finality.slot c.rules.settings.slots_per_epoch);
        checkpoints = on.moved;
        more = more;
        old = λ i l. on.old i l (omega (arith, l, more));
        new = on.new;
      })

-- Every close

earlier-shaped : (w : Bool) (c : deneb.ForkClose) → Shaped (deneb.event_of (w, c))
earlier-shaped w (deneb.earlier c) = any-shaped (w, c)
earlier-shaped w (deneb.deneb c) = deneb-shaped w c

record Joins (c : Bool × AnyClose) : Type 0 where
  moves : Moves (event_of c)
  grown : Ordering (event_of c) → Grown (event_of c)
  everybody : Ordering (event_of c) → T (accepted_electra c) → (i : ℕ) → T (waits_in (event_of c).opening i) → activation (event_of c).returned i ≡ (event_of c).epoch + 1 + (event_of c).lookahead

joins : (c : Bool × AnyClose) → accepts (event_of c) ≡ true → Joins c
joins (w, earlier c) t =
    let x = earlier-shaped w c (subst T (sym t) tt) in
    record { moves = x.checkpoints; grown = λ _. none-added (event_of (w, earlier c)) x; everybody = λ g u. absurd u }
joins (w, electra c o came) t =
    let h : Electra (electra_event w c o) = rw came (electra-event w c (rw came at t)) in
    record { moves = h.checkpoints; grown = electra-grown (electra_event w c o) h; everybody = λ g u. everybody (electra_event w c o) h g }

-- One who is in the registry, by the interface
module _ (c : Bool × AnyClose) (j : Joins c) (g : Ordering (event_of c)) where
  abbrev e : Event
  e = event_of c

  known : Known event_of accepted_electra c
  known =
      let x = j.grown g in
      let o = close-order g j.moves in
      let n = x.shape.registry.number in
      record {
        fits = x.shape.fits;
        low = omega (arith, x.shape.fits, g.low, g.middle, g.high);
        up = o.0;
        more = omega (arith, n, x.added.more);
        eligible = λ i l. go-eligible ((x.added.old i (omega (arith, l, n))).0 ∙ x.shape.registry.eligibility i l) (x.shape.registry.queue-eligibility i l);
        active = λ i l.
            go-active (waits _ x.shape.queue i) (from-waits _ x.shape.queue i) (ltb (ahead _ x.shape.queue i) x.shape.churn)
            (x.shape.registry.queue-activation i l) ((x.added.old i (omega (arith, l, n))).1 ∙ x.shape.registry.activation i l);
        everybody = j.everybody g;
      }
    where
      go-eligible : {epoch was queued now : ℕ} → now ≡ queued → Marked epoch was queued → (now ≡ was) ⊎ (was ≡ FAR)
      go-eligible q (Marked.same p) = inl (q ∙ p)
      go-eligible q (Marked.written p r) = inr p

      go-active : {f i to was now : ℕ} {queue : List Validator} (b : Bool) → (T b → Waits f queue i) → (d : Bool) → activation_at queue i ≡ was
          → now ≡ cond (b && d) to (activation_at queue i) → (now ≡ was) ⊎ ((was ≡ FAR) × (now ≡ to))
      go-active true w true p q = inr (sym p ∙ (w tt).inactive, q)
      go-active true w false p q = inl (q ∙ p)
      go-active false w d p q = inl (q ∙ p)

each-moves : (cs : List (Bool × AnyClose)) → Each Moves (map event_of cs)
each-moves [] = tt
each-moves (c ∷ cs) = (λ t. (joins c t).moves, each-moves cs)

each-grown : (cs : List (Bool × AnyClose)) → Each Ordering (map event_of cs) → Each Grown (map event_of cs)
each-grown [] o = tt
each-grown (c ∷ cs) o = (λ t. (joins c t).grown (o.0 t), each-grown cs o.1)

each-known : (cs : List (Bool × AnyClose)) → Each Ordering (map event_of cs) → induction.Each (closes event_of accepted_electra) cs
each-known [] o = tt
each-known (c ∷ cs) o = (λ t. known c (joins c t) (o.0 t), each-known cs o.1)

only-accepted : (c : Bool × AnyClose) → accepts (event_of c) ≡ false → accepted_electra c ≡ false
only-accepted (w, earlier c) a = refl
only-accepted (w, electra c o came) a = a

pub demand3 : Demand3
demand3 m start cs l p =
    let were = through start (map event_of cs) p in
    let o = in_order_lem (map event_of cs) start (each-moves cs) were.handed were.rising were.ordered in
    record {
      demand3 = grown-claim m start (map event_of cs) (each-grown cs o) l p;
      next = next-electra event_of accepted_electra start cs only-accepted (handed event_of accepted_electra cs start were.handed) (each-known cs o);
    }
