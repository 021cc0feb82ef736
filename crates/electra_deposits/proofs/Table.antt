-- The loop that adds, over the lent queue.
use mathlib.Core.Path.{◌≡◌, refl, sym, ap, ◌∙◌}
use mathlib.Core.Bool.{true, false}
use mathlib.Core.List.{List, ◌++◌}
use Prim.Native.Nat.{ℕ, ◌+◌, ◌-◌, ◌*◌, ◌/◌, ◌≤◌, ◌<◌}
use native.Mathlib.Omega.{arith}
use borrow.Author.Tests.{lt-ltb, le-ltb, ltb-true}
use lib.Dec.{ltb}
use lib.ListN.{length, get_or, take, drop, replicate, take-append-drop}
use lib.Seq.{get_or-take, length-take-le}
use Rattle.definitions.specs.Record.{encode, decode}
use Rattle.definitions.specs.Checked.{Checked, value, refused}
use Rattle.definitions.specs.declared.Refusal.{Refusal}
use Rattle.laws.proofs.Checked.{not_value, value_same, bound}
use Rattle.laws.proofs.Encode.{length-decode, encode-decode, decode-encode}
use Rattle.laws.proofs.Tests.{all-at}
use Rattle.definitions_electra.specs.declared.PendingDeposit.{PendingDeposit}
use Rattle.definitions_electra.specs.Record.{Registry, decode_deposits, place_of}
use Rattle.definitions_electra.specs.Document.Electra.Helpers.{get_max_effective_balance}
use Rattle.definitions_electra.specs.Document.Electra.EpochProcessing.{get_validator_from_deposit}
use Rattle.laws_electra.proofs.Deposits.{length-deposits}
use Rattle.laws_electra.proofs.Until.{Resumed, resumed-none, resumed-all, resumed-refused, resumed-more}
use Rattle.electra_deposits.specs.declared.adding.NewNumbers.{NewNumbers}
use Rattle.electra_deposits.specs.Alone.{none}
use Rattle.electra_deposits.specs.Room.{Room, place_by, appended, apply_at, join_at, new_by, room_of, Held, Applies, rules_by, keyed, opening, joins, joined, Added}
use Rattle.laws_electra.proofs.Cases.{less_or}
use Rattle.electra_deposits.proofs.Alike.{Alike, met, alike-refused, first-refused}
use Rattle.electra_deposits.proofs.Keys.{length-range, finds-none}
use Rattle.electra_deposits.proofs.Simulated.{Roomy, Grown, join-alike}

-- after i turns, of which there are `index`
pub record Adding (k : NewNumbers) (n : ℕ) (xs₀ cs₀ ds : List ℕ) (index i : ℕ) (xs cs ps : List ℕ) (count : ℕ) : Type 0 where
  pub text : Registry
  pub room : Roomy n (length ds / 5) (decode xs₀) cs₀ (room_of xs cs ps count) text
  pub begun : i ≤ index
  pub least : n ≤ count
  pub fits : count ≤ n + i
  pub resumed : Resumed (λ b d. false) (joins (rules_by k 0) n) (opening n xs₀ cs₀) (take index (decode_deposits ds)) i text
  pub long : length xs ≡ 10 * length cs

pub adding_none : (k : NewNumbers) (n : ℕ) (xs₀ cs₀ ds ps : List ℕ) (index : ℕ) → length xs₀ ≡ 10 * length cs₀ → length cs₀ ≡ n + length ds / 5 → ps ≡ replicate (length ds / 5) 0 → Adding k n xs₀ cs₀ ds index 0 xs₀ cs₀ ps n
adding_none k n xs₀ cs₀ ds ps index l w z =
    record {
      text = opening n xs₀ cs₀;
      room = record {
        count = sym (length-range 0 n);
        wide = length-decode (length cs₀) xs₀ l ∙ w;
        wide_too = w;
        first = refl;
        first_too = refl;
        behind = refl;
        behind_too = refl;
        finds = rw z (finds-none _ n (length ds / 5));
      };
      begun = omega arith;
      least = omega arith;
      fits = omega arith;
      resumed = resumed-none _ _ _ _;
      long = l;
    }

-- deposit i of the queue, which is one of its first `index`
module _ (ds : List ℕ) (index : ℕ) (within : index ≤ length ds / 5) where
  pub total : length (take index (decode_deposits ds)) ≡ index
  total = length-take-le index (decode_deposits ds) (omega (arith, within, length-deposits ds))

  module _ {i : ℕ} (l : i < index) where
    pub here : i < length (take index (decode_deposits ds))
    here = omega (arith, l, total)

    module _ {d : PendingDeposit} (is : d ≡ get_or (decode_deposits ds) i none) where
      pub at-queue : d ≡ get_or (take index (decode_deposits ds)) i none
      at-queue = is ∙ sym (get_or-take index (decode_deposits ds) i none l)

      pub key_here : (n : ℕ) → keyed n ds ≡ true → d.pubkey < n + length ds / 5
      unfolding keyed
      key_here n keys = rw is (ltb-true _ _ (all-at (λ d. ltb d.pubkey (n + length ds / 5)) (decode_deposits ds) i none (omega (arith, l, within, length-deposits ds)) keys))

split : {A : Type 0} (c : ℕ) (xs front behind : List A) → take c xs ≡ front → drop c xs ≡ behind → xs ≡ front ++ behind
split c xs front behind e f = rw (← e, ← f) (sym (take-append-drop c xs))

join-same : (k : NewNumbers) (n : ℕ) (m : Room) (d : PendingDeposit) → join_at (get_validator_from_deposit (rules_by k 0)) n m d ≡ join_at (new_by k) n m d
unfolding join_at apply_at appended get_validator_from_deposit get_max_effective_balance
join-same k n m d = refl

-- a room, from what the lent lists hold
same-room : (a : Room) {xs cs ps : List ℕ} {c : ℕ} → Held a xs cs ps → c ≡ a.count → a ≡ room_of xs cs ps c
same-room a h many =
    let b : decode _ ≡ a.buffer = ap decode h.buffer ∙ decode-encode a.buffer in
    rw (b, h.compounding, h.places, many)

module _ {k : NewNumbers} {n : ℕ} {xs₀ cs₀ ds : List ℕ} {index i : ℕ} {xs cs ps : List ℕ} {count : ℕ} (g : Adding k n xs₀ cs₀ ds index i xs cs ps count) (within : index ≤ length ds / 5) where
  pub adding_within : (n ≤ count) × (count ≤ n + length ds / 5)
  adding_within = (g.least, omega (arith, g.fits, g.begun, within))

  pub adding_all : index ≤ i → Added (joined (rules_by k 0) n (opening n xs₀ cs₀) (take index (decode_deposits ds))) xs₀ cs₀ xs cs count
  unfolding joined
  adding_all l =
      let done = resumed-all g.resumed (omega (arith, total ds index within)) in
      record {
        holds = λ reg e. (let same : g.text ≡ reg = value_same (sym done ∙ e) in rw (← same) (record {
          registry = sym (encode-decode (length cs) xs g.long) ∙ ap encode (split count (decode xs) g.text.validators (drop count (decode xs₀)) g.room.first g.room.behind);
          compounding = split count cs g.text.compounding (drop count cs₀) g.room.first_too g.room.behind_too;
          count = g.room.count;
        }));
      }

  module _ (l : i < index) where
    -- what a turn asks for
    pub room-left : count < length cs
    room-left = omega (arith, g.fits, g.room.wide_too, l, within)

    pub table-long : length ps ≡ length ds / 5
    table-long = g.room.finds.long

    below : (key : ℕ) → n ≤ key → key < n + length ds / 5 → place_by n ps key ≤ count
    below key a b =
        let ks = g.text.pubkeys in
        rw (g.room.finds.found key a b, g.room.count)
        (less_or (place_of key ks) (length ks) (λ e. rw (lt-ltb (place_of key ks) (length ks) e) (omega (arith, e))) (λ e. rw (le-ltb (place_of key ks) (length ks) e) (omega arith)))

    pub place-below : (key : ℕ) → key < n + length ds / 5 → place_by n ps key ≤ count
    place-below key b =
        less_or key n (λ e. (let z : key - n ≡ n - n = omega (arith, e) in rw z (below n (omega arith) (omega (arith, l, within)))))
        (λ e. below key e b)

    module _ {d : PendingDeposit} (is : d ≡ get_or (decode_deposits ds) i none) (keys : keyed n ds ≡ true) where
      module _ {ys es qs : List ℕ} {r : Checked ℕ} (h : Applies (join_at (new_by k) n (room_of xs cs ps count) d) ys es qs r) where
        both : Alike (Grown n (length ds / 5) (decode xs₀) cs₀ count) (join_at (new_by k) n (room_of xs cs ps count) d) (joins (rules_by k 0) n g.text d)
        both = rw (← join-same k n (room_of xs cs ps count) d) (join-alike g.room d (key_here ds index within l is n keys) (rules_by k 0) (omega (arith, g.fits, l, within)))

        pub adding_stop : {p : Refusal} → r ≡ refused p → {many : ℕ} → Added (joined (rules_by k 0) n (opening n xs₀ cs₀) (take index (decode_deposits ds))) xs₀ cs₀ ys es many
        unfolding joined
        adding_stop {p} z =
            let o = alike-refused both (first-refused (join_at (new_by k) n (room_of xs cs ps count) d) (λ a. a.count) (sym h.is ∙ z)) in
            let x = resumed-refused g.resumed none (here ds index within l) refl {p = p} (rw (← at-queue ds index within l is) o) in
            record { holds = λ reg y. absurd (not_value (sym x ∙ y)) }

        pub adding_more : {c : ℕ} → r ≡ value c → length ys ≡ length xs → length es ≡ length cs → Adding k n xs₀ cs₀ ds index (i + 1) ys es qs c
        adding_more {c} z lx lc =
            let b = bound (join_at (new_by k) n (room_of xs cs ps count) d) (λ a. value a.count) (sym h.is ∙ z) in
            let many : c ≡ b.first.count = value_same (sym b.then) in
            let o = met both b.gave in
            let e = h.held b.first b.gave in
            record {
              text = o.other;
              room = rw (← same-room b.first e many) o.alike.roomy;
              begun = omega (arith, l);
              least = omega (arith, many, o.alike.least, g.least);
              fits = omega (arith, many, o.alike.most, g.fits);
              resumed = resumed-more g.resumed none (here ds index within l) refl (rw (← at-queue ds index within l is) o.gave);
              long = omega (arith, lx, lc, g.long);
            }
