-- Steps 6 to 8 on the opening's validators, one after the other.
use mathlib.Core.Path.{◌≡◌, refl, sym, ap, ◌∙◌}
use mathlib.Core.List.{List, []}
use Prim.Native.Nat.{ℕ, ◌+◌, ◌*◌, ◌/◌, ◌≤◌}
use native.Mathlib.Omega.{arith}
use lib.ListN.{length, take}
use Rattle.definitions.specs.Record.{Validator, encode, decode}
use Rattle.definitions.specs.Checked.{Checked, value, refused, bind}
use Rattle.definitions.specs.declared.Refusal.{Refusal}
use Rattle.laws.proofs.Checked.{value_same, Bound, bound}
use Rattle.laws.proofs.Encode.{length-decode, decode-encode}
use Rattle.laws_electra.proofs.Cases.{Gives}
use Rattle.laws.proofs.Loops.Ran.{done-refused}
use Rattle.arithmetic.proofs.Laws.{bind-value, bind-refused}
use Rattle.definitions_electra.specs.declared.ElectraRules.{ElectraRules}
use Rattle.definitions_electra.specs.declared.DepositNumbers.{DepositNumbers}
use Rattle.definitions_electra.specs.Record.{ElectraState, decode_deposits, decode_consolidations}
use Rattle.definitions_electra.specs.Calls.{lent_state, lent_finality, no_churn}
use Rattle.electra_consolidations.specs.Moves.{column, moved_to, movements}
use Rattle.electra_first.proofs.Stops.{first-lost, not_given}
use Rattle.electra_last.specs.Moved.{Balanced, moved_by, MovedRan}
use Rattle.electra_twelve.proofs.Moves.{column-same}
use Rattle.electra_steps.specs.Last.{Six, six_by, Eight, seven_eight}
use Rattle.electra_steps.specs.Finds.{Finds}
use Rattle.electra_sixth.specs.declared.Sixth.{Sixth}
use Rattle.electra_sixth.specs.Sixth.{AsLent, sixth_of, SixHeld, SixthRan}
use Rattle.electra_added.specs.New.{new_updates, NewRefusal}
use Rattle.electra_added.proofs.New.{no-refusal}
use Rattle.electra_front.specs.declared.Later.{Later}
use Rattle.electra_front.specs.Later.{later_of, LaterHeld, LaterOf, LaterRan}
use Rattle.electra_front.proofs.Steps.{ended, seven-eight}

pub movements-same : (next n : ℕ) (vs : List Validator) (pairs xs ys : List ℕ) → column 10 n xs ≡ column 10 n ys → column 11 n xs ≡ column 11 n ys → movements next n vs pairs xs ≡ movements next n vs pairs ys
unfolding movements
movements-same next n vs pairs xs ys e g = rw (e, g)

module _ (r : ElectraRules) (slot fin : ℕ) (numbers : DepositNumbers) (compounding deposits pairs before : List ℕ) (tens : length before ≡ 10 * length compounding) {lent amounts₁ after₁ : List ℕ} (twelves : length lent ≡ 12 * length compounding) {a : Checked Sixth} (h : SixthRan r slot fin numbers deposits before after₁ lent amounts₁ a) where
  abbrev n : ℕ
  n = length compounding

  abbrev Goal : List ℕ → List ℕ → Checked Later → Type 0
  Goal after amounts x = LaterRan r slot fin numbers compounding deposits pairs before after lent amounts x

  many : length before / 10 ≡ n
  many = omega (arith, tens)

  -- a state that these lists are of
  lent-state : (st : ElectraState) × AsLent slot fin numbers before deposits st
  lent-state =
      let long = length-decode (length before / 10) before (omega (arith, tens)) in (
        lent_state (lent_finality slot fin) (decode before) [] compounding no_churn numbers (decode_deposits deposits) [],
        record { slot = refl; finalized = refl; validators = refl; carried = refl; bridge = refl; requests = refl; finds = record { validators = long; keys = rw long; credentials = sym many; queue = refl } },
      )

  pub six-refused : {p : Refusal} {after amounts : List ℕ} {y : Checked Later} → a ≡ refused p → y ≡ refused p → Goal after amounts y
  six-refused z o =
      record {
        ran = λ st l c q.
            let e = first-lost (six_by r st) sixth_of (sym (h.ran st l).is ∙ z) in
            record { is = o ∙ sym (bind-refused _ e); held = λ x f v g. absurd (not_given e f) };
      }

  -- the sixth step gave its numbers
  module _ {w : Sixth} (z : a ≡ value w) where
    module _ (st : ElectraState) (l : AsLent slot fin numbers before deposits st) where
      way : Bound (six_by r st) (λ x. value (sixth_of x)) w
      way = bound (six_by r st) (λ x. value (sixth_of x)) (sym (h.ran st l).is ∙ z)

      sixth : sixth_of way.first ≡ w
      sixth = value_same way.then

      -- the later steps are refused
      eight-refused : {p : Refusal} {y : Checked Later} {after amounts : List ℕ} → seven_eight r n st way.first ≡ refused p → y ≡ refused p → LaterOf r st n deposits pairs before after lent amounts y
      eight-refused e o =
          record {
            is = o ∙ sym (bind-value _ way.gave ∙ bind-refused _ e);
            held = λ x f v g. absurd (not_given e (ap (seven_eight r n st) (value_same (sym way.gave ∙ f)) ∙ g));
          }

    pub few-done : w.index ≤ length deposits / 5
    few-done =
        let st = lent-state.0 in
        let l = lent-state.1 in
        let m = (h.ran st l).held (way st l).first (way st l).gave in
        omega (arith, ap (λ (s : Sixth). s.index) (sixth st l), m.few)

    module _ {d : Checked ℕ} {after amounts : List ℕ} (g : MovedRan w.next_epoch n (decode after₁) pairs (moved_by r w.next_epoch compounding (decode after₁) pairs) after amounts₁ amounts d) where
      module _ (st : ElectraState) (l : AsLent slot fin numbers before deposits st) (same : st.compounding ≡ compounding) (queue : st.pending_consolidations ≡ decode_consolidations pairs) where
        abbrev x : Six
        x = (way st l).first

        six : six_by r st ≡ value x
        six = (way st l).gave

        held : SixHeld (length before / 10) x deposits before after₁ lent amounts₁
        held = (h.ran st l).held x six

        next-is : w.next_epoch ≡ x.queueing.next_epoch
        next-is = sym (ap (λ (s : Sixth). s.next_epoch) (sixth st l))

        index-is : w.index ≡ x.processing.next_deposit_index
        index-is = sym (ap (λ (s : Sixth). s.index) (sixth st l))

        finds : Finds n deposits st
        finds = let f = l.finds in rw many at f

        abbrev moving : Checked Balanced
        moving = moved_by r x.queueing.next_epoch compounding (take n x.processing.registry.validators) pairs

        chained : seven_eight r n st x ≡ bind moving (ended (new_updates r n x))
        chained = seven-eight r st n deposits pairs finds queue six ∙ ap (λ (cs : List ℕ). bind (moved_by r x.queueing.next_epoch cs (take n x.processing.registry.validators) pairs) (ended (new_updates r n x))) same

        opened : decode after₁ ≡ take n x.processing.registry.validators
        opened = ap decode held.registry ∙ decode-encode (take (length before / 10) x.processing.registry.validators) ∙ rw many

        ran : MovedRan x.queueing.next_epoch n (take n x.processing.registry.validators) pairs moving after amounts₁ amounts d
        ran = rw (next-is, opened) at g

      pub move_refused : {p : Refusal} {other amounts' : List ℕ} {y : Checked Later} → d ≡ refused p → y ≡ refused p → Goal other amounts' y
      move_refused k o =
          record {
            ran = λ st l c q.
                let m = first-lost (moving st l c q) (λ b. b.moved.next_pending_consolidation) (sym (ran st l c q).is ∙ k) in
                eight-refused st l (chained st l c q ∙ bind-refused _ m) o;
          }

      module _ {count : ℕ} (k : d ≡ value count) {answer : Checked (Unit {0})} (u : NewRefusal r n deposits w.index answer) where
        module _ (st : ElectraState) (l : AsLent slot fin numbers before deposits st) (same : st.compounding ≡ compounding) (queue : st.pending_consolidations ≡ decode_consolidations pairs) where
          b : Bound (moving st l same queue) (λ b. value b.moved.next_pending_consolidation) count
          b = bound (moving st l same queue) (λ b. value b.moved.next_pending_consolidation) (sym (ran st l same queue).is ∙ k)

          by : seven_eight r n st (x st l same queue) ≡ ended (new_updates r n (x st l same queue)) b.first
          by = chained st l same queue ∙ bind-value _ b.gave

          module _ (e : answer ≡ value tt) where
            added : Gives (new_updates r n (x st l same queue))
            added = no-refusal r u (finds st l same queue) (six st l same queue) (index-is st l same queue) e

            abbrev made : Eight
            made = record { moved = b.first.moved; balanced = b.first.balanced; added = added.first }

            eight : seven_eight r n st (x st l same queue) ≡ value (record { moved = b.first.moved; balanced = b.first.balanced; added = added.first })
            eight = by ∙ bind-value _ added.gave

            told-by : ◌≡◌ {A = Later} (record { next_epoch = w.next_epoch; index = w.index; left = w.left; done = count }) (later_of (x st l same queue) made)
            told-by =
                let s = sym (sixth st l) in
                let c = value_same (sym b.then) in
                λ i. record { next_epoch = (s i).next_epoch; index = (s i).index; left = (s i).left; done = c i }

            here : (v : Eight) → seven_eight r n st (x st l same queue) ≡ value v → LaterHeld n (x st l same queue) v deposits pairs before after lent amounts
            here v f =
                let s = held st l same queue in
                let m = (ran st l same queue).held b.first b.gave in
                let frame = (ran st l same queue).framed in
                let is : made ≡ v = value_same (sym eight ∙ f) in
                record {
                  registry = m.registry ∙ ap (λ (y : Eight). encode y.balanced) is;
                  few = s.few;
                  most = omega (arith, (ran st l same queue).most count k, value_same b.then, ap (λ (y : Eight). y.moved.next_pending_consolidation) is);
                  long = frame.long ∙ s.long;
                  nine = λ i j o. frame.others i j (omega (arith, o)) ∙ s.other (12 * i + j) (λ t e. omega (arith, e, o));
                  tenth = λ i o. frame.others i 9 (omega arith) ∙ s.tenth i (omega (arith, o, many));
                  moves = movements-same _ n _ pairs lent amounts₁ (column-same 10 n lent amounts₁ (λ i o. sym (s.other (12 * i + 10) (λ t e. omega (arith, e))))) (column-same 11 n lent amounts₁ (λ i o. sym (s.other (12 * i + 11) (λ t e. omega (arith, e))))) ∙ m.books (omega (arith, s.long, twelves)) ∙ ap (λ (y : Eight). value (moved_to n y.moved.validators y.moved.next_pending_consolidation amounts)) is;
                }

            whole : (y : Six) → six_by r st ≡ value y → (v : Eight) → seven_eight r n st y ≡ value v → LaterHeld n y v deposits pairs before after lent amounts
            whole y e v f =
                let same-six : x st l same queue ≡ y = value_same (sym (six st l same queue) ∙ e) in
                let t = here v (ap (seven_eight r n st) same-six ∙ f) in
                rw same-six at t

            later-of : LaterOf r st n deposits pairs before after lent amounts (value (record { next_epoch = w.next_epoch; index = w.index; left = w.left; done = count }))
            later-of = record { is = ap value told-by ∙ sym (bind-value _ (six st l same queue) ∙ bind-value _ eight); held = whole }

        pub new-refused : {p : Refusal} {y : Checked Later} → answer ≡ refused p → y ≡ refused p → Goal after amounts y
        new-refused e o =
            record {
              ran = λ st l c q.
                  let m = u.tests st (finds st l c q) (x st l c q) (six st l c q) (index-is st l c q) in
                  eight-refused st l (by st l c q ∙ bind-refused _ (done-refused (new_updates r n (x st l c q)) (sym m ∙ e))) o;
            }

        pub goes : answer ≡ value tt → Goal after amounts (value (record { next_epoch = w.next_epoch; index = w.index; left = w.left; done = count }))
        goes e = record { ran = λ st l c q. later-of st l c q e }
