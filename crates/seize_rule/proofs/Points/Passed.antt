-- A scan that finds a slot never taken is over: no slot behind it was ever taken, and all of them are passed in one move.
use Rattle.std.proofs.Common.{◌≡◌, ℕ, ◌+◌, ◌<◌, ◌≤◌, Bool, true, false, cond, eqb, List, [], refl, arith, eqb-true}
use Rattle.seize_moves.proofs.Moves.State.Ghost.{put, Debt, Stage, Open, State, is_active, was_put}
use Rattle.seize_moves.proofs.Moves.State.Rule.{Inv, Moved, AtStage, Tally, same_row, row_of, same_slot, slot_of}
use Rattle.seize_moves.proofs.Moves.State.Moves.{passed_all}
use Rattle.seize_moves.proofs.Moves.Moves.Tries.{passed_loose, passed_scanned, passed_guarded, passed_total, passed_put}
use Rattle.seize_moves.proofs.Moves.State.Grown.{other_marked}
use Rattle.seize_moves.proofs.Memory.Words.View.{View}
use Rattle.seize_moves.proofs.Memory.Words.Shows.{Extra, Shows, Written, keeps_like}
use Rattle.seize_moves.proofs.Given.General.{at_most_itself as not_longer}

abbrev pub passed_rest : ℕ → State → ℕ → State
passed_rest n m x = record m { debt = put m.debt x (passed_all n (m.debt x)); seen = put m.seen x n }

rest_tally : (n s : ℕ) (stage : ℕ → Stage) (counter : ℕ → ℕ) (debt : ℕ → ℕ → Debt) (seen : ℕ → ℕ) (todo : ℕ → List ℕ) (x : ℕ) → Tally n stage counter debt seen todo
    → stage x ≡ Open s → Tally n stage counter (put debt x (passed_all n (debt x))) (put seen x n) todo
rest_tally n s stage counter debt seen todo x h hs c = at (eqb c x) (eqb-true c x)
  where
    at : (z : Bool) → (z ≡ true → c ≡ x) → AtStage n (stage c) (counter c) (cond z (passed_all n (debt x)) (debt c)) (cond z n (seen c)) (todo c)
    at true r = grind (arith, r refl, h x, passed_total was_put n (debt x) passed_put)
    at false r = h c

pub passed_rest_moves : (n i s : ℕ) (m : State) (x : ℕ) → Inv n m → m.stage x ≡ Open s → m.holder s ≡ i + 1
    → ((t : ℕ) → m.seen x ≤ t → t < n → is_active (m.head t) ≡ false) → Moved n i s m (passed_rest n m x)
passed_rest_moves n i s m x inv hs hh rest = record {
  inv = record {
    debts = record {
      listed = λ c u. grind (arith, inv.debts.listed c u);
      loosed = passed_loose n m.loose m.from m.debt x inv.debts.loosed;
      marked = λ c u. grind (arith, inv.debts.marked c u);
      scanned = passed_scanned n m.seen m.debt x inv.debts.scanned (inv.debts.seen_le x);
      seen_le = λ c. grind (arith, inv.debts.seen_le c);
    };
    batches = record {
      fresh = inv.batches.fresh;
      blank = inv.batches.blank;
      tally = rest_tally n s m.stage m.counter m.debt m.seen m.todo x inv.batches.tally hs;
      mine = inv.batches.mine;
      sole = inv.batches.sole;
      below = inv.batches.below;
      shut = inv.batches.shut;
      rested = λ u l e. grind (arith, inv.batches.rested u l, inv.batches.mine u l);
    };
    places = inv.places;
    logged = record {
      guarded = passed_guarded n m.log m.life m.head m.seen m.debt x inv.logged.guarded inv.logged.opens inv.debts.scanned rest;
      opens = inv.logged.opens;
      inside = inv.logged.inside;
      reaches = inv.logged.reaches;
      given = inv.logged.given;
      used = inv.logged.used;
      on_way = inv.logged.on_way;
      sound = inv.logged.sound;
    };
    slots = inv.slots;
  };
  keeps = record {
    rows = λ j e. same_row (row_of m j);
    slots = λ t e. same_slot (slot_of m t);
    holding = λ j t e f. (refl, refl);
    batches = λ j y e f. record { stage = refl; blocks = refl; seen = grind arith; todo = refl; done = grind arith };
    lives = λ j c e f. (refl, refl);
    lists = λ j c e f. refl;
    taken_slots = λ t e. e;
    marked = λ j y t ne closing d. (other_marked m.stage m.debt _ j y x t closing (λ e. grind (arith, hs, e)) d, ([], refl));
    lengths = λ t l. not_longer _;
  };
}

pub passed_rest_written : (n i y : ℕ) (f : View) (m : State) (x : Extra) → Shows n f m x → Written n i f m x f (passed_rest n m y) x
passed_rest_written n i y f m x v =
    record { shows = record { entries = v.entries; linkage = v.linkage; lists = v.lists }; keeps = keeps_like i f m x f refl refl refl refl refl }
