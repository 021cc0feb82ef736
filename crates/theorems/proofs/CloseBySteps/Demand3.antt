-- Demand 3 of closes that are whole or by steps, whatever orders come: an order leaves the two activation epochs as they are.
use mathlib.Core.Path.{◌≡◌, refl, sym, ap, ◌∙◌, subst}
use mathlib.Core.Bool.{Bool}
use mathlib.Core.List.{List, [], ◌∷◌, map, map-map}
use Prim.Native.Nat.{ℕ}
use native.Mathlib.Omega.{arith}
use lib.Dec.{eqb→eq}
use Rattle.definitions.specs.declared.FullAnswer.{FullAnswer}
use Rattle.definitions.specs.Record.{Validator, BeaconState, encode, decode}
use Rattle.definitions.specs.Updates.{with_validators}
use Rattle.definitions.specs.Close.{Outcome}
use Rattle.definitions_close.specs.FullClose.{FullCall, settings_of, full_close}
use Rattle.definitions_close.specs.Orders.{Order, orders_in, carried_out, NinthCall, carries_out}
use Rattle.laws.proofs.Encode.{decode-encode}
use Rattle.laws.proofs.Frame.Entries.{told}
use Rattle.history.specs.Events.{Event}
use Rattle.history.specs.Demand3.{Close, event}
use Rattle.history.proofs.Shape.{EventShape, Shaped, EachShaped}
use Rattle.history.proofs.Steps.{epochs, Spared, spared_number, spared_eligibility, spared_activation}
use Rattle.history.proofs.EveryList.{claim}
use Rattle.theorems.specs.FullClose.ByNumber.{plain_outcome}
use Rattle.theorems.proofs.FullClose.Demand3.{full-shaped}
use Rattle.theorems.specs.CloseBySteps.Desk.{Desk, ninth_call, after_ninth, acts}
use Rattle.theorems.specs.CloseBySteps.Demand3.{outcome_from, AnyClose, wholly, by_steps, close_of, Demand3BySteps}
use Rattle.theorems.proofs.CloseBySteps.Turns.{UnderWay, answer_so_far, desk_at, waiting, onward, ended}
use Rattle.theorems.proofs.CloseBySteps.Eight.{onward-gives, Way, under, over, any_way}
use Rattle.theorems.proofs.CloseBySteps.Orders.{without_exit, exits-only}

spared_orders : (vs ws : List Validator) → map without_exit ws ≡ map without_exit vs → Spared vs ws
spared_orders vs ws e = record { same = told without_exit epochs (λ v. refl) vs ws e }

-- an event whose returned registry has the same two epochs has the interface too
abbrev returning : Event → List Validator → Event
returning e ws =
    record {
      opening = e.opening;
      returned = with_validators ws e.returned;
      refusal = e.refusal;
      epoch = e.epoch;
      lookahead = e.lookahead;
      churn = e.churn;
      others_stay = e.others_stay;
    }

reshaped : (m : ℕ) (e : Event) (ws : List Validator) → Spared e.returned.validators ws → EventShape m e → EventShape m (returning e ws)
reshaped m e ws k h =
    record {
      churn = h.churn;
      enough = h.enough;
      fits = h.fits;
      checkpoints = h.checkpoints;
      queue = h.queue;
      registry =
          record {
            queue-number = h.registry.queue-number;
            queue-eligibility = h.registry.queue-eligibility;
            queue-activation = h.registry.queue-activation;
            number = spared_number k ∙ h.registry.number;
            eligibility = λ i l. spared_eligibility k i ∙ h.registry.eligibility i l;
            activation = λ i l. spared_activation k i ∙ h.registry.activation i l;
          };
    }

-- a close by steps as demand 3 sees it
abbrev came_of : Bool → FullCall → Desk → Close
came_of w c d = record { call = c.call; outcome = outcome_from d; others_stay = w }

module _ (w : Bool) (c : FullCall) (st : BeaconState) (count : ℕ) (orders : List ℕ) (u : UnderWay c 8 st) (period : ℕ) (answers : List ℕ) where
  abbrev here : Desk
  here = desk_at c 8 st count orders

  abbrev last : NinthCall
  last = ninth_call c here period answers

  -- the whole close
  whole_outcome : Outcome
  whole_outcome = record { refusal = 0; finality = st.finality; raised = (answer_so_far c st).raised; closing_registry = encode st.validators; closing_slashings = st.slashings }

  whole_is : plain_outcome (full_close c) ≡ whole_outcome
  unfolding whole_outcome
  whole_is =
      let g = onward-gives c st count orders u in
      rw (← g.closing_registry, ← g.closing_slashings)
      (ap (λ (a : FullAnswer). record { refusal = a.refusal; finality = a.finality; raised = a.raised; closing_registry = encode st.validators; closing_slashings = st.slashings }) (sym g.answer))

  whole-shaped : Shaped (event (record { call = c.call; outcome = whole_outcome; others_stay = w }))
  whole-shaped = subst (λ (o : Outcome). Shaped (event (record { call = c.call; outcome = o; others_stay = w }))) whole_is (full-shaped (w, c))

  carried : Shaped (event (came_of w c (after_ninth here (carries_out last))))
  unfolding carries_out whole_outcome
  carried t =
      let ws = carried_out (settings_of c) st.finality.slot period (decode (encode st.validators)) (orders_in count orders) in
      rw (decode-encode ws)
      (reshaped _ (event (record { call = c.call; outcome = whole_outcome; others_stay = w })) ws (spared_orders (decode (encode st.validators)) ws (exits-only (settings_of c) st.finality.slot period (decode (encode st.validators)) (orders_in count orders))) (whole-shaped tt))

shaped-way : (w : Bool) (c : FullCall) (d : Desk) (os : List Order) (size : ℕ) → Way c d os size → d.running.done ≡ 9 → Shaped (event (came_of w c d))
shaped-way w c d os size (under n l (waiting e h none long)) z = absurd (omega (arith, h.done, z))
shaped-way w c d os size (under n l (onward st count orders u e h)) z = absurd (omega (arith, ap (λ (x : Desk). x.running.done) e, z, l))
shaped-way w c d os size (under n l (ended s h)) z = λ t.
    absurd (s.refusal (sym (ap (λ (a : FullAnswer). a.refusal) s.gives.answer) ∙ eqb→eq d.running.answer.refusal 0 t))
shaped-way w c d os size (over v) z =
    subst (λ (x : Desk). Shaped (event (came_of w c x))) (sym v.is) (carried w c v.state v.count v.list v.way v.period v.answers)

pub each-shaped : (c : Bool × AnyClose) → Shaped (event (close_of c))
each-shaped (w, wholly c) = full-shaped (w, c)
each-shaped (w, by_steps b) = shaped-way w b.whole (acts b.whole b.desk b.list) _ _ (any_way b.whole b.desk b.begins b.list) b.ended

all-shaped : (calls : List (Bool × AnyClose)) → EachShaped (map (λ c. event (close_of c)) calls)
all-shaped [] = tt
all-shaped (c ∷ calls) = (each-shaped c, all-shaped calls)

pub demand3-by_steps : Demand3BySteps
demand3-by_steps m start calls l p = claim m start (map event (map close_of calls)) (subst EachShaped (sym (map-map event close_of calls)) (all-shaped calls)) l p
