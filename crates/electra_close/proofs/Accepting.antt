-- The close after its tests: what the lent lists hold, refused or not.
use mathlib.Core.Path.{◌≡◌, refl, sym, ap, ◌∙◌}
use mathlib.Core.List.{List, ◌++◌}
use Prim.Native.Nat.{ℕ, ◌+◌, ◌-◌, ◌*◌, ◌/◌, ◌≤◌, ◌<◌}
use native.Mathlib.Omega.{arith}
use lib.ListN.{length, get_or, take, drop, replicate, length-drop, length-replicate, take-append-drop, get_or-replicate, get_or-append}
use lib.Seq.{ext_get_or, get_or-take, get_or-drop, length-take-le, take-append_seam, drop-append-add, drop-drop}
use Rattle.definitions.specs.Record.{encode}
use Rattle.definitions.specs.Checked.{Checked, value, refused, done, number_of, bind}
use Rattle.definitions.specs.declared.Refusal.{Refusal}
use Rattle.laws.proofs.Loops.Ran.{done-refused}
use Rattle.definitions.specs.Refusals.{after_tests, closing_buffer}
use Rattle.laws.proofs.Encode.{length-encode, length-decode}
use Rattle.definitions_electra.specs.Record.{ElectraState, encode_deposits, encode_consolidations}
use Rattle.definitions_electra.specs.Calls.{over}
use Rattle.definitions_electra.specs.Evaluated.Electra.EpochProcessing.{process_epoch}
use Rattle.definitions_electra_close.specs.declared.ElectraAnswer.{ElectraAnswer}
use Rattle.definitions_electra_close.specs.Amounts.{electra_amounts}
use Rattle.definitions_electra_close.specs.Close.{ElectraCall, electra_state_of, electra_tests, electra_closed, electra_answer, electra_close}
use Rattle.definitions_electra_close.specs.Calls.{electra_outcome}
use Rattle.electra_consolidations.proofs.Closing.{placed_of}
use Rattle.electra_consolidations.specs.Consolidations.{placed}
use Rattle.electra_close_tests.proofs.Passed.{ElectraPassed}
use Rattle.electra_first.specs.First.{after_five}
use Rattle.electra_steps.specs.Last.{after_six, after_eight, after_ten}
use Rattle.electra_front.specs.declared.Front.{Front}
use Rattle.electra_front.specs.Front.{FrontHeld}
use Rattle.electra_twelve.specs.Twelve.{Twelve}
use Rattle.electra_twelve.proofs.Moves.{moves_in}
use Rattle.electra_twelve.proofs.Amounts.{amounts-are}
use Rattle.electra_refused.proofs.Refused.{tests-refused, work-refused}
use Rattle.electra_refused.specs.Outcome.{as_opened}
use Rattle.electra_close.specs.declared.Counts.{Counts}
use Rattle.electra_close.specs.Finish.{Reached, Ended, Finishes}
use Rattle.electra_close.specs.Steps.{StepsRan, closed_answer}

-- what stands behind, once the front is written over
pub behind : (k m : ℕ) (front zs : List ℕ) → length front ≡ k → k ≤ m → drop m (front ++ drop k zs) ≡ drop m zs
behind k m front zs e l =
    let s : length front + (m - k) ≡ m = omega (arith, e, l) in
    let t : k + (m - k) ≡ m = omega (arith, l) in
    ap (λ (j : ℕ). drop j (front ++ drop k zs)) (sym s) ∙ drop-append-add front (drop k zs) (m - k) ∙ drop-drop (m - k) k zs ∙ ap (λ (j : ℕ). drop j zs) t

seam : (k : ℕ) (front zs : List ℕ) → length front ≡ k → take k (front ++ zs) ≡ front
seam k front zs e = ap (λ (j : ℕ). take j (front ++ zs)) (sym e) ∙ take-append_seam front zs

-- as the definition has it
defined : (c : ElectraCall) → electra_tests c ≡ value tt → {d : ElectraState} {xs : List ℕ} → process_epoch c.rules (electra_state_of c) ≡ value d → electra_amounts c.rules (electra_state_of c) ≡ value xs → electra_outcome (electra_answer c (value d)) (over (encode d.altair.validators) c.closing_registry) (over d.compounding c.closing_compounding) d.altair.slashings (over (encode_deposits d.pending_deposits) c.closing_deposits) (over (encode_consolidations d.pending_consolidations) c.closing_consolidations) (over xs c.amounts) ≡ electra_close c
unfolding electra_close electra_closed after_tests closing_buffer bind
defined c t e a = rw (t, e, a)

same_outcome : {a b : ElectraAnswer} {r₁ r₂ k₁ k₂ s₁ s₂ d₁ d₂ p₁ p₂ m₁ m₂ : List ℕ} → a ≡ b → r₁ ≡ r₂ → k₁ ≡ k₂ → s₁ ≡ s₂ → d₁ ≡ d₂ → p₁ ≡ p₂ → m₁ ≡ m₂ → electra_outcome a r₁ k₁ s₁ d₁ p₁ m₁ ≡ electra_outcome b r₂ k₂ s₂ d₂ p₂ m₂
same_outcome a r k s d p m = rw (a, r, k, s, d, p, m)

same_answer : {a b : ElectraAnswer} → a.refusal ≡ b.refusal → a.finality ≡ b.finality → a.raised ≡ b.raised → a.test ≡ b.test → a.validators ≡ b.validators → a.deposits ≡ b.deposits → a.consolidations ≡ b.consolidations → a.deposit_balance_to_consume ≡ b.deposit_balance_to_consume → a.churn ≡ b.churn → a ≡ b
same_answer z f r t v d k l h = rw (z, f, r, t, v, d, k, l, h)

module _ (c : ElectraCall) (t : electra_tests c ≡ value tt) (p : ElectraPassed c) {r : Checked Front} {registry₁ amounts₁ : List ℕ} (s : StepsRan c.rules (electra_state_of c) (length c.compounding) c.deposits c.consolidations c.closing_registry registry₁ c.amounts amounts₁ r) where
  abbrev n : ℕ
  n = length c.compounding

  tens : length c.registry ≡ 10 * n
  tens = let q = p.shape.long in omega (arith, q, p.credentials)

  count : length c.registry / 10 ≡ n
  count = omega (arith, tens)

  -- over as much as was written
  over-registry : (ws : List ℕ) → 10 * n ≤ length ws → over ws registry₁ ≡ over ws c.closing_registry
  over-registry ws l = ap (λ (zs : List ℕ). ws ++ zs) (rw s.registry (behind (10 * n) (length ws) s.front c.closing_registry s.long l))

  behind-amounts : (m : ℕ) → 12 * n ≤ m → drop m amounts₁ ≡ drop m c.amounts
  behind-amounts m l = rw s.amounts (behind (12 * n) m s.rows c.amounts s.wide l)

  -- refused: the opening put back
  steps-refused : {q : Refusal} → r ≡ refused q → electra_outcome (as_opened (number_of q) c.finality c.churn c.numbers c.registry c.deposits c.consolidations) (over c.registry registry₁) (over c.compounding c.closing_compounding) c.slashings c.deposits c.consolidations (over (replicate (12 * (length c.registry / 10)) 0) amounts₁) ≡ electra_close c
  steps-refused z =
      let o = over-registry c.registry (omega (arith, tens)) in
      let k : length c.registry / 10 ≡ n = omega (arith, tens) in
      let l : length (replicate {A = ℕ} (12 * (length c.registry / 10)) 0) ≡ 12 * n = length-replicate (12 * (length c.registry / 10)) 0 ∙ ap (λ (j : ℕ). 12 * j) k in
      let a = ap (λ (zs : List ℕ). replicate (12 * (length c.registry / 10)) 0 ++ zs) (behind-amounts (length (replicate {A = ℕ} (12 * (length c.registry / 10)) 0)) (omega (arith, l))) in
      rw (o, a) (work-refused c t (done-refused _ (sym s.ran.is ∙ ap done z)) p.same_deposits p.same_consolidations)

  -- as the lists come back
  pub put_back : {a : ElectraAnswer} {r₂ k₂ s₂ d₂ p₂ m₂ : List ℕ} {x : Refusal} → r ≡ refused x → a ≡ as_opened (number_of x) c.finality c.churn c.numbers c.registry c.deposits c.consolidations → r₂ ≡ over c.registry registry₁ → k₂ ≡ over c.compounding c.closing_compounding → s₂ ≡ c.slashings → d₂ ≡ c.deposits → p₂ ≡ c.consolidations → m₂ ≡ over (replicate (12 * (length c.registry / 10)) 0) amounts₁ → electra_outcome a r₂ k₂ s₂ d₂ p₂ m₂ ≡ electra_close c
  put_back z a o k u d q m = same_outcome a o k u d q m ∙ steps-refused z

  module _ {f : Front} (z : r ≡ value f) where
    held : FrontHeld c.rules (electra_state_of c) n c.deposits c.consolidations s.front s.rows f
    held = s.ran.held f z

    abbrev closed : ElectraState
    closed = after_ten c.rules (after_eight (after_six (after_five (electra_state_of c) held.v) held.x) held.y)

    module _ {counts : Counts} {registry₂ compounding₂ slashings₂ deposits₂ pairs₂ amounts₂ : List ℕ} (e : Finishes c.rules c.finality.slot f.next_epoch f.index f.done c.compounding c.slashings c.deposits c.consolidations registry₁ registry₂ c.closing_compounding compounding₂ slashings₂ c.closing_deposits deposits₂ c.closing_consolidations pairs₂ amounts₁ amounts₂ counts) where
      reached : Reached c.rules (after_five (electra_state_of c) held.v) held.x held.y c.finality.slot f.next_epoch f.index f.done c.compounding c.slashings c.deposits c.consolidations registry₁
      reached =
          let h = held in
          record {
            finds = h.finds;
            credentials = refl;
            queue = refl;
            slashed = refl;
            slot = h.slot;
            six = h.six;
            eight = h.eight;
            next = h.next;
            deposited = h.index;
            consolidated = h.done;
            front = ap (λ (xs : List ℕ). take (10 * n) xs) s.registry ∙ seam (10 * n) s.front (drop (10 * n) c.closing_registry) s.long ∙ h.registry;
          }

      ended : Ended n held.x.processing.registry closed registry₁ registry₂ c.closing_compounding compounding₂ slashings₂ c.closing_deposits deposits₂ c.closing_consolidations pairs₂ amounts₁ amounts₂ counts
      ended = e.ends _ _ _ reached

      abbrev filled : List ℕ
      filled = take (12 * counts.validators) amounts₂

      fill : (q : ℕ) → q < 12 * counts.validators → get_or filled q 0 ≡ get_or amounts₂ q 0
      fill q l = get_or-take (12 * counts.validators) amounts₂ q 0 l

      -- of the opening's validators
      first : (q : ℕ) → q < 12 * n → get_or filled q 0 ≡ get_or s.rows q 0
      first q l = fill q (omega (arith, l, ended.least)) ∙ ended.front q l ∙ rw s.amounts (get_or-append s.rows (drop (12 * n) c.amounts) 0 q (omega (arith, l, s.wide)))

      twelve : Twelve n c.rules held.v held.x held.x.queueing.next_epoch (electra_state_of c).pending_consolidations filled
      twelve =
          let h = held in
          record {
            long = length-take-le (12 * counts.validators) amounts₂ (omega (arith, ended.room, ended.long)) ∙ ap (λ (k : ℕ). 12 * k) ended.count;
            least = omega (arith, ended.least, ended.count);
            nine = λ es q i k l m. first (12 * i + k) (omega (arith, l, m)) ∙ h.eights es q i k l m;
            ninth = λ i l. first (12 * i + 8) (omega (arith, l)) ∙ h.ninth i l;
            tenth = λ i l. first (12 * i + 9) (omega (arith, l)) ∙ h.tenth i l;
            moves = moves_in n _ _ c.consolidations (replicate (12 * n) 0) s.rows filled h.moves (λ i k l a b. get_or-replicate (12 * n) (12 * i + k) 0 0 (omega (arith, l, b))) (λ i k l a b. sym (first (12 * i + k) (omega (arith, l, b))));
            added = λ i k l m b. fill (12 * i + k) (omega (arith, m, b, ended.count)) ∙ ended.rows i k l (omega (arith, m, ended.count)) b;
          }

      are : electra_amounts c.rules (electra_state_of c) ≡ value filled
      unfolding placed
      are = amounts-are c.rules (electra_state_of c) n (length-decode n c.registry tens) (let q = placed_of c.registry c.consolidations p.indices in rw count at q) held.v held.five held.x held.six filled twelve

      amounts-end : amounts₂ ≡ over filled c.amounts
      amounts-end =
          sym (take-append-drop (12 * counts.validators) amounts₂)
          ∙ ap (λ (zs : List ℕ). filled ++ zs)
          (ext_get_or 0 (drop (12 * counts.validators) amounts₂) (drop (12 * counts.validators) amounts₁)
          (omega (arith, length-drop (12 * counts.validators) amounts₂, length-drop (12 * counts.validators) amounts₁, ended.long))
          (λ q l. get_or-drop (12 * counts.validators) amounts₂ q 0 ∙ ended.behind (12 * counts.validators + q) (omega arith) ∙ sym (get_or-drop (12 * counts.validators) amounts₁ q 0))
          ∙ behind-amounts (12 * counts.validators) (omega (arith, ended.least))
          ∙ ap (λ (k : ℕ). drop k c.amounts) (sym (length-take-le (12 * counts.validators) amounts₂ (omega (arith, ended.room, ended.long)))))

      answered : closed_answer f counts ≡ electra_answer c (value closed)
      unfolding electra_answer
      answered = (let h = held in same_answer refl h.finality h.raised h.test ended.many ended.left ended.kept h.left h.churn)

      pub accepted : {a : ElectraAnswer} → a ≡ closed_answer f counts → electra_outcome a registry₂ compounding₂ slashings₂ deposits₂ pairs₂ amounts₂ ≡ electra_close c
      accepted is =
          let l = length-encode closed.altair.validators in
          same_outcome (is ∙ answered) (ended.validators ∙ over-registry (encode closed.altair.validators) (omega (arith, l, ended.least, ended.many))) ended.credentials ended.reset ended.queue ended.rest amounts-end
          ∙ defined c t held.closes are

-- a test refused
pub untouched : (c : ElectraCall) {x : Checked (Unit {0})} {q : Refusal} {a : ElectraAnswer} → a ≡ as_opened (number_of q) c.finality c.churn c.numbers c.registry c.deposits c.consolidations → x ≡ electra_tests c → x ≡ refused q → electra_outcome a c.closing_registry c.closing_compounding c.closing_slashings c.closing_deposits c.closing_consolidations c.amounts ≡ electra_close c
untouched c a e z = same_outcome a refl refl refl refl refl refl ∙ tests-refused c e z
