-- The step of a state, by what is lent of it.
use mathlib.Core.Path.{◌≡◌, sym, ap, ◌∙◌}
use mathlib.Core.Bool.{cond}
use mathlib.Core.List.{List}
use Prim.Native.Nat.{ℕ, ◌+◌, ◌-◌, ◌*◌, ◌/◌, ◌<◌}
use lib.ListN.{length, get_or}
use Rattle.definitions.specs.Record.{Validator, encode, decode}
use Rattle.definitions.specs.Checked.{Checked, value, refused, bind, sub64}
use Rattle.definitions.specs.declared.Refusal.{Refusal}
use Rattle.laws.proofs.Checked.{value_same, Bound, bound}
use Rattle.laws.proofs.Encode.{length-decode, decode-encode}
use Rattle.arithmetic.proofs.Laws.{bind-value, bind-refused}
use Rattle.definitions_electra.specs.declared.ElectraRules.{ElectraRules}
use Rattle.definitions_electra.specs.declared.DepositNumbers.{DepositNumbers}
use Rattle.definitions_electra.specs.Record.{ElectraState, decode_deposits}
use Rattle.definitions_electra.specs.Document.Electra.EpochProcessing.{Queueing, Processing}
use Rattle.definitions_electra.specs.Evaluated.Electra.EpochProcessing.{queueing, left_to_consume}
use Rattle.electra_amounts.specs.Columns.{balance_in}
use Rattle.electra_deposits.specs.declared.QueueNumbers.{QueueNumbers}
use Rattle.electra_deposits.specs.declared.Deposited.{Deposited}
use Rattle.electra_deposits.specs.Alone.{queueing_of, alone, ended, Deposits}
use Rattle.electra_deposits.specs.Step.{numbers_by, new_of, lent_for, lent_registry, text_by}
use Rattle.electra_deposits.proofs.Alike.{Alike, Met, met, alike-refused}
use Rattle.electra_deposits.proofs.Twin.{Twin}
use Rattle.electra_deposits.proofs.Text.{text, within, twin, twin-first}
use Rattle.electra_deposits.proofs.step.Run.{left-same}
use Rattle.electra_deposits.proofs.step.Close.{next-far, Given, queue-given, queue-over, rules-same}
use Rattle.electra_first.specs.Taken.{balance_at}
use Rattle.electra_first.proofs.Stops.{first-lost, not_given}
use Rattle.electra_steps.specs.Last.{Six, six_by}
use Rattle.electra_sixth.specs.declared.Sixth.{Sixth}
use Rattle.electra_sixth.specs.Named.{Naming, NoneYet}
use Rattle.electra_sixth.proofs.Named.{unnamed, Tenths, three-tenths}
use Rattle.electra_sixth.specs.Sixth.{AsLent, sixth_of, SixHeld, SixEnds}

refuses : {m : Checked Six} {p : Refusal} {deposits before after lent amounts : List ℕ} {s : Checked Sixth} → m ≡ refused p → s ≡ refused p → SixEnds m deposits before after lent amounts s
refuses e f = record { is = f ∙ sym (bind-refused _ e); held = λ x t. absurd (not_given e t) }

module _ (r : ElectraRules) {slot fin : ℕ} {numbers : DepositNumbers} {registry deposits : List ℕ} {st : ElectraState} (a : AsLent slot fin numbers registry deposits st) (tens : length registry ≡ 10 * (length registry / 10)) where
  abbrev n : ℕ
  n = length registry / 10

  abbrev rest : Queueing → Processing → Checked Six
  rest q p = bind (left_to_consume q.available p) (λ left. value (record { queueing = q; processing = p; left = left }))

  queue-same : queueing r st ≡ queueing r (lent_for slot fin numbers registry)
  unfolding queueing
  queue-same = rw (a.slot, a.finalized, a.validators, a.carried, a.bridge, a.requests)

  six-is : six_by r st ≡ bind (queueing r (lent_for slot fin numbers registry)) (λ q. bind (text_by r q (lent_registry registry st.compounding) (decode_deposits deposits)) (rest q))
  unfolding six_by text_by
  six-is = rw (queue-same, a.validators, a.finds.keys, a.finds.queue, length-decode n registry tens)

  module _ {answer : Checked QueueNumbers} (h : answer ≡ bind (queueing r (lent_for slot fin numbers registry)) (λ q. value (numbers_by r.electra.max_pending_deposits_per_epoch q))) where
    pub queue-refused : {p : Refusal} {s : Checked Sixth} → answer ≡ refused p → {after lent amounts : List ℕ} → s ≡ refused p → SixEnds (six_by r st) deposits registry after lent amounts s
    queue-refused e f = refuses (six-is ∙ bind-refused _ (queue-over r.electra.max_pending_deposits_per_epoch h e)) f

    module _ {q : QueueNumbers} (e : answer ≡ value q) {after : List ℕ} {answered : Checked Deposited} (ds : Deposits (alone q registry deposits) after answered) where
      g : Given r.electra.max_pending_deposits_per_epoch (queueing r (lent_for slot fin numbers registry)) q
      g = queue-given r.electra.max_pending_deposits_per_epoch h e

      abbrev looped : Checked Processing
      looped = text (new_of r) q registry st.compounding deposits tens a.finds.credentials

      six-next : six_by r st ≡ bind (text (new_of r) q registry st.compounding deposits tens a.finds.credentials) (rest (queueing_of q))
      six-next =
          let same = rules-same r (queueing_of q) (lent_registry registry st.compounding) (decode_deposits deposits) in
          six-is ∙ bind-value _ g.is ∙ rw (g.last, same)

      -- the loop over the opening's validators, and the text's
      both : Alike (Twin (length registry / 10) (decode registry)) (alone q registry deposits) (text (new_of r) q registry st.compounding deposits tens a.finds.credentials)
      both = twin (new_of r) q registry st.compounding deposits tens a.finds.credentials (next-far _ _ g.is)

      pub loop-refused : {p : Refusal} {s : Checked Sixth} {lent amounts : List ℕ} → answered ≡ refused p → s ≡ refused p → SixEnds (six_by r st) deposits registry after lent amounts s
      loop-refused z f = refuses (six-next ∙ bind-refused _ (alike-refused both (first-lost (alone q registry deposits) ended (sym ds.is ∙ z)))) f

      module _ {d : Deposited} (z : answered ≡ value d) where
        ran : Bound (alone q registry deposits) (λ a. value (ended a)) d
        ran = bound (alone q registry deposits) (λ a. value (ended a)) (sym ds.is ∙ z)

        stands : d ≡ ended ran.first
        stands = value_same (sym ran.then)

        o : Met (Twin (length registry / 10) (decode registry)) ran.first (text (new_of r) q registry st.compounding deposits tens a.finds.credentials)
        o = met both ran.gave

        six-last : six_by r st ≡ bind (cond d.reached (sub64 q.available d.processed) (value 0)) (λ left. value (record { queueing = queueing_of q; processing = o.other; left = left }))
        six-last = six-next ∙ bind-value _ o.gave ∙ rw (left-same q.available o.other (ap (λ (x : Deposited). x.processed) stands ∙ o.alike.processed) (ap (λ (x : Deposited). x.reached) stands ∙ o.alike.reached))

        module _ {number : Checked ℕ} (says : number ≡ cond d.reached (sub64 q.available d.processed) (value 0)) where
          pub left-refused : {p : Refusal} {s : Checked Sixth} {lent amounts : List ℕ} → number ≡ refused p → s ≡ refused p → SixEnds (six_by r st) deposits registry after lent amounts s
          left-refused e f = refuses (six-last ∙ bind-refused _ (sym says ∙ e)) f

          module _ {left : ℕ} {lent kept booked amounts : List ℕ} (gave : number ≡ value left) (first : Naming 0 deposits registry lent (length deposits / 5) kept) (second : Naming 1 deposits after kept (length deposits / 5) booked) (third : Naming 2 deposits after booked (length deposits / 5) amounts) (same : length after ≡ length registry) (none_yet : NoneYet (length registry / 10) lent) where
            abbrev made : Six
            made = record { queueing = queueing_of q; processing = o.other; left = left }

            given : six_by r st ≡ value (record { queueing = queueing_of q; processing = o.other; left = left })
            given = six-last ∙ bind-value _ (sym says ∙ gave)

            registry-is : after ≡ encode ran.first.validators
            registry-is = ds.held ran.first ran.gave

            index-is : d.index ≡ o.other.next_deposit_index
            index-is = ap (λ (x : Deposited). x.index) stands ∙ o.alike.index

            back : decode after ≡ ran.first.validators
            back = ap decode registry-is ∙ decode-encode ran.first.validators

            tenths : Tenths registry after lent amounts
            tenths = three-tenths first second third same none_yet (λ i l e. ap (λ (vs : List Validator). balance_at vs i) back ∙ ap (λ (v : Validator). v.balance) (unnamed q registry deposits i e ran.gave))

            tenth : (i : ℕ) → i < n → get_or amounts (12 * i + 9) 0 ≡ balance_at o.other.registry.validators i - balance_at (decode registry) i
            tenth i l =
                let balance : balance_in after i ≡ balance_at o.other.registry.validators i = ap (λ (vs : List Validator). balance_at vs i) back ∙ ap (λ (v : Validator). v.balance) (o.alike.pair.same i l) in
                tenths.tenth i l ∙ ap (λ (x : ℕ). x - balance_at (decode registry) i) balance

            whole : SixHeld n made deposits registry after lent amounts
            whole =
                record {
                  registry = registry-is ∙ ap encode (twin-first o.alike);
                  few = within (new_of r) q registry st.compounding deposits tens a.finds.credentials o.gave;
                  long = tenths.long;
                  tenth = tenth;
                  other = tenths.other;
                }

            by : {x : Six} → made ≡ x → SixHeld n x deposits registry after lent amounts
            by x = rw x at whole

            told-by : ◌≡◌ {A = Sixth} (record { next_epoch = q.next_epoch; index = d.index; left = left }) (sixth_of made)
            told-by = ap (λ (i : ℕ). record { next_epoch = q.next_epoch; index = i; left = left }) index-is

            pub deposits-held : SixEnds (six_by r st) deposits registry after lent amounts (value (record { next_epoch = q.next_epoch; index = d.index; left = left }))
            deposits-held = record { is = ap value told-by ∙ sym (bind-value _ given); held = λ x t. by (value_same (sym given ∙ t)) }
