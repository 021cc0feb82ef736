-- What tests 1, 2 and 3 say of a record in numbers, that 8 says that the pair is the register's, and that writing asks exactly that.
use mathlib.Core.Path.{◌≡◌, refl}
use mathlib.Core.Bool.{Bool, true, false, cond}
use mathlib.Core.List.{List}
use Prim.Native.Nat.{ℕ, ◌*◌, ◌/◌, ◌%◌, ◌^◌, ◌≤◌}
use native.Mathlib.Omega.{arith}
use borrow.Author.Tests.{leb-true, eqb-true, le-leb, eq-eqb}
use lib.Dec.{leb, eqb}
use lib.ListN.{length}
use Rattle.definitions.specs.declared.ExitQueue.{ExitQueue}
use Rattle.definitions.specs.Lists.{every}
use Rattle.definitions.specs.Record.{Validator, decode}
use Rattle.definitions.specs.Checked.{value, refused, bind}
use Rattle.definitions.specs.declared.Refusal.TheVariants.{WrongQueue}
use Rattle.definitions.specs.Refusals.{in_order, is_vector_length, settings_shaped, registry_shaped, good_settings, good_finality, good_registry}
use Rattle.definitions.specs.ExitQueue.{is_queue_of, queue_test}
use Rattle.definitions_file.specs.File.{Contents, file_length, file_of, write_tests, written}
use Rattle.laws.proofs.Checked.{not_value, bound}
use Rattle.laws.proofs.Tests.{both, in_order-value}

abbrev pub count_in : Contents → ℕ
count_in c = length c.registry / 10

abbrev pub root_count_in : Contents → ℕ
root_count_in c = c.settings.slots_per_historical_root

abbrev pub slashing_count_in : Contents → ℕ
slashing_count_in c = c.settings.epochs_per_slashings_vector

abbrev pub file_length_of : Contents → ℕ
file_length_of c = file_length 2 (count_in c) (root_count_in c) (slashing_count_in c)

-- c passes 1, 2 and 3
pub record Good (c : Contents) : Type 0 where
  pub entries : length c.registry ≡ 10 * count_in c
  pub few : count_in c ≤ 2 ^ 24
  pub some-roots : 1 ≤ root_count_in c
  pub few-roots : root_count_in c ≤ 65536
  pub some-slashings : 1 ≤ slashing_count_in c
  pub few-slashings : slashing_count_in c ≤ 65536
  pub roots : length c.roots ≡ 32 * root_count_in c
  pub slashings : length c.slashings ≡ slashing_count_in c
  pub settings : good_settings c.settings ≡ true
  pub finality : good_finality c.finality ≡ true
  pub registry : good_registry c.registry ≡ true

pub vector-length : (n : ℕ) → is_vector_length n ≡ true → (1 ≤ n) × (n ≤ 65536)
vector-length n e = let t = both (leb 1 n) (leb n 65536) e in (leb-true 1 n t.0, leb-true n 65536 t.1)

-- Test 8

pub queue-passed : (q : ExitQueue) (vs : List Validator) {u : Unit {0}} → queue_test q vs ≡ value u → is_queue_of q vs ≡ true
unfolding queue_test
queue-passed q vs e = go (is_queue_of q vs) e
  where
    go : (t : Bool) {u : Unit {0}} → cond t (value tt) (refused WrongQueue) ≡ value u → t ≡ true
    go true e = refl
    go false e = absurd (not_value e)

-- Writing

pub record Writes (c : Contents) (q : ExitQueue) (file : List ℕ) : Type 0 where
  pub good : Good c
  pub long : length file ≡ file_length_of c
  pub queue : is_queue_of q (decode c.registry) ≡ true

pub write_good : (c : Contents) (q : ExitQueue) (file : List ℕ) → write_tests c q file ≡ value tt → Writes c q file
unfolding write_tests settings_shaped registry_shaped
write_good c q file e =
    let then = bound _ (λ _. queue_test q (decode c.registry)) e in
    let order = in_order-value _ _ _ then.gave in
    let vectors = both (is_vector_length (root_count_in c)) (is_vector_length (slashing_count_in c)) (order.shaped 0) in
    let counts = both (eqb (length c.registry % 10) 0) (leb (count_in c) (2 ^ 24)) (order.shaped 1) in
    let roots = vector-length (root_count_in c) vectors.0 in
    let slashings = vector-length (slashing_count_in c) vectors.1 in
    let tens = eqb-true (length c.registry % 10) 0 counts.0 in
    record {
      good = record {
        entries = omega arith;
        few = leb-true (count_in c) (2 ^ 24) counts.1;
        some-roots = roots.0;
        few-roots = roots.1;
        some-slashings = slashings.0;
        few-slashings = slashings.1;
        roots = eqb-true (length c.roots) (32 * root_count_in c) (order.shaped 2);
        slashings = eqb-true (length c.slashings) (slashing_count_in c) (order.shaped 3);
        settings = order.settings 0;
        finality = order.recorded 0;
        registry = order.recorded 1;
      };
      long = eqb-true (length file) (file_length_of c) (order.shaped 4);
      queue = queue-passed q (decode c.registry) then.then;
    }

pub good_write : (c : Contents) (q : ExitQueue) (file : List ℕ) → Good c → length file ≡ file_length_of c → is_queue_of q (decode c.registry) ≡ true → write_tests c q file ≡ value tt
unfolding write_tests in_order settings_shaped registry_shaped bind queue_test every
good_write c q file g e p =
    let zero_rest : length c.registry % 10 ≡ 0 = omega arith in
    rw (
      le-leb _ _ g.some-roots,
      le-leb _ _ g.few-roots,
      le-leb _ _ g.some-slashings,
      le-leb _ _ g.few-slashings,
      eq-eqb _ _ zero_rest,
      le-leb _ _ g.few,
      eq-eqb _ _ g.roots,
      eq-eqb _ _ g.slashings,
      eq-eqb _ _ e,
      g.settings,
      g.finality,
      g.registry,
      p,
    )

pub is-file : (c : Contents) (q : ExitQueue) (file : List ℕ) → write_tests c q file ≡ value tt → written c q file ≡ file_of c q
unfolding written bind
is-file c q file e = rw e
