-- A block that was retired, and that an open section holds, is in a batch, and stays in it: what users do, what rows begin and what rows do leaves it there.
use Rattle.std.specs.Prelude.{◌≡◌, ℕ, ◌+◌, ◌<◌, Bool, true, false, cond, eqb, List, [], ◌∷◌, ◌++◌, Option, Some, is_some}
use Rattle.std.proofs.Common.{refl, ap, sym, subst, ◌∙◌, arith, eqb-true}
use Rattle.std.proofs.lemmas.Bool.{eq-eqb}
use Rattle.run_shows.specs.Given.SeizeWordsDeclared.at.At.TheVariants.{Entry}
use Rattle.run_shows.specs.Given.SeizeWordsMem.{value_at, word_at}
use Rattle.run_shows.specs.Given.SeizeDeclared.states.TheConstants.{FIRST, LAST_SLOT}
use Rattle.run_shows.specs.Given.SeizeLaw.{Effect, Entered, Left, Retired, Taken, Deferred, holds, is_retired}
use Rattle.run_shows.specs.Given.SeizeSequence.{IsBetween, taken_in}
use Rattle.run_shows.specs.Given.SeizeWorld.{World, Event, Begin, Step, Makes, Drops, Links, Parts, Unlinks, Rewrites, Operates, Ends, LeavesOver, Relinks, Clears, Chooses, Happens, Runs, Steps', IsInside, times, Request, Register', Enter', Leave', LeaveOwned, Refresh, Unregister', Retire, Flush, Defer', Begins}
use Rattle.run_shows.specs.Given.SeizeWaitingHeld.{count}
use Rattle.run_shows.proofs.Given.SeizeMovesState.Ghost.{Debt, Stage, Unused, Open, Closing, Closed, Dead, Life, IsIn, IsDoomed, State, is_in, is_given}
use Rattle.run_shows.proofs.Given.SeizeMovesState.Held.{held_on}
use Rattle.run_shows.proofs.Given.SeizeMovesState.Moves.{left_over}
use Rattle.run_shows.proofs.Given.SeizeMovesState.Rule.{Inv, IsGuarded, IsLive, SameUnlessDead}
use Rattle.run_shows.proofs.Given.SeizeMovesSets.Shown.{Alike, is_shut}
use Rattle.run_shows.proofs.Given.SeizeRuleRows.Effects.{IsOneStep}
use Rattle.run_shows.proofs.Given.SeizeMemoryWords.Chains.{first_or}
use Rattle.run_shows.proofs.Given.SeizeMemoryWords.Named.{words_of, word_found, or_zero}
use Rattle.run_shows.proofs.Given.SeizeMemoryWords.Shows.{FirstIs, lives}
use Rattle.run_shows.proofs.Given.SeizeRuleRows.Sizes.{AllSized}
use Rattle.run_shows.proofs.Given.SeizeRuleRows.SizesKept.{happens_sized}
use Rattle.run_shows.proofs.Given.SeizeRuleWorld.Events.{leaves_over_good}
use Rattle.run_shows.proofs.Given.SeizeRuleWorld.Good.{Good}
use Rattle.run_shows.proofs.Given.SeizeRuleWorld.Kept.{IsStill, users_good}
use Rattle.run_shows.proofs.Given.SeizeAloneHistories.NotTaken.{IsHeld, did, not_taken, still_held}
use Rattle.run_shows.proofs.Given.SeizeAloneHistories.Reached.{Reached}
use Rattle.run_shows.proofs.Given.SeizeAloneHistories.UsersTurn.{AreBetween}
use Rattle.run_shows.proofs.Given.CallersTogether.Slots.{all_between}
use Rattle.run_shows.specs.Given.TablesNodes.{deferred_word}
use Rattle.run_shows.specs.Given.TablesDeclared.node.Node.{Node}
use Rattle.run_shows.specs.Given.RuleInWorld.{AllUsers}
use Rattle.run_shows.proofs.Given.CallersRows.Users.{events_hold}
use Rattle.run_places.specs.Hands.Rows.{HoldsOne}
use Rattle.run_places.proofs.Hands.Firsts.{row_keeps_first}

-- the block is in a batch
abbrev pub InSome : Life → Type 0
InSome l = (x : ℕ) × (l ≡ IsIn x)

guarded_in : (l : Life) (debt : ℕ → ℕ → Debt) (t : ℕ) → IsGuarded l debt t → is_given l ≡ true → InSome l
guarded_in (IsIn x) debt t guarded given = (x, refl)
guarded_in (IsDoomed i) debt t guarded given = absurd guarded
guarded_in _ debt t guarded given = absurd (cc given)

is_in_one : (l : Life) (x : ℕ) → 0 < is_in x l → l ≡ IsIn x
is_in_one (IsIn y) x some = ap IsIn (sym (by (eqb x y) (eqb-true x y) some))
  where
    by : (t : Bool) → (t ≡ true → x ≡ y) → 0 < cond t 1 0 → x ≡ y
    by true e some = e refl
    by false e some = absurd (omega (arith, some))
is_in_one _ x some = absurd (omega (arith, some))

one_in : (x : ℕ) → is_in x (IsIn x) ≡ 1
one_in x = ap (λ (t : Bool). cond t 1 0) (eq-eqb x x refl)

-- a batch that is not reclaimed has just the blocks that are in it
pub boxed_live : (g : Stage) (a b : ℕ) → IsLive g ≡ true → SameUnlessDead g a b → a ≡ b
boxed_live Unused a b live h = h
boxed_live (Open s) a b live h = h
boxed_live (Closing i) a b live h = h
boxed_live Closed a b live h = h
boxed_live Dead a b live h = absurd (cc live)

shut_live : (g : Stage) → is_shut g ≡ 1 → IsLive g ≡ true
shut_live (Closing i) e = refl
shut_live Closed e = refl
shut_live _ e = absurd (omega (arith, e))

-- batches that are open or shut are so still, and have the same blocks
pub record SameBatches (n : ℕ) (m m2 : State) : Type 0 where
  pub opened : (s : ℕ) → s < n → m2.blocks (m2.open_batch s) ≡ m.blocks (m.open_batch s)
  pub stages : (x : ℕ) → is_shut (m2.stage x) ≡ is_shut (m.stage x)
  pub blocks : (x : ℕ) → is_shut (m.stage x) ≡ 1 → m2.blocks x ≡ m.blocks x

same_alike : (n : ℕ) (m m2 : State) → Alike n m m2 → SameBatches n m m2
same_alike n m m2 a = record { opened = a.opened; stages = a.stages; blocks = a.blocks }

same_left : (n : ℕ) (m m2 : State) (i c : ℕ) → m2 ≡ left_over m i c → SameBatches n m m2
same_left n m m2 i c e = subst (SameBatches n m) (sym e) (record { opened = λ s l. refl; stages = λ x. refl; blocks = λ x k. refl })

module _ (n : ℕ) (m : State) (inv : Inv n m) where
  -- so of each of them it is said
  pub counted_in : (x b : ℕ) → IsLive (m.stage x) ≡ true → 0 < count b (m.blocks x) → m.life b ≡ IsIn x
  counted_in x b live some =
      is_in_one (m.life b) x (subst (λ (k : ℕ). 0 < k) (boxed_live (m.stage x) (count b (m.blocks x)) (is_in x (m.life b)) live (inv.places.boxed x b)) some)

  pub in_counted : (x b : ℕ) → m.life b ≡ IsIn x → count b (m.blocks x) ≡ 1
  in_counted x b is =
      boxed_live (m.stage x) (count b (m.blocks x)) (is_in x (m.life b)) (inv.places.housed b x is) (inv.places.boxed x b) ∙ ap (is_in x) is ∙ one_in x

  -- where batches that are open or shut have the same blocks, it is in a batch of the same blocks
  module _ (m2 : State) (inv2 : Inv n m2) (a : SameBatches n m m2) (x b : ℕ) (is : m.life b ≡ IsIn x) where
    abbrev InSame : Type 0
    InSame = (y : ℕ) × (m2.life b ≡ IsIn y) × (m2.blocks y ≡ m.blocks x)

    same_there : (y : ℕ) → IsLive (m2.stage y) ≡ true → m2.blocks y ≡ m.blocks x → InSame
    same_there y live same =
        let one : count b (m2.blocks y) ≡ 1 = ap (count b) same ∙ in_counted x b is in
        let within = boxed_live (m2.stage y) (count b (m2.blocks y)) (is_in y (m2.life b)) live (inv2.places.boxed y b) in
        (y, is_in_one (m2.life b) y (omega (arith, one, within)), same)

    in_same : InSame
    in_same = by (m.stage x) refl (inv.places.housed b x is)
      where
        shut : is_shut (m.stage x) ≡ 1 → InSame
        shut e = same_there x (shut_live (m2.stage x) (a.stages x ∙ e)) (a.blocks x e)

        by : (g : Stage) → m.stage x ≡ g → IsLive (m.stage x) ≡ true → InSame
        by Unused e live = absurd (cc (ap IsLive (sym e) ∙ live))
        by (Open s) e live =
            let l = inv.batches.below s x e in
            same_there (m2.open_batch s) (ap IsLive (inv2.batches.mine s l)) (a.opened s l ∙ ap m.blocks (inv.batches.sole s x e))
        by (Closing i) e live = shut (ap is_shut e)
        by Closed e live = shut (ap is_shut e)
        by Dead e live = absurd (cc (ap IsLive (sym e) ∙ live))

first_is : (l : Life) (w x : ℕ) (blocks : ℕ → List ℕ) → l ≡ IsIn x → FirstIs w blocks l → w ≡ first_or 0 (blocks x)
first_is l w x blocks e h = subst (FirstIs w blocks) e h

pub there_is : (o : Option ℕ) (v : ℕ) → is_some o ≡ true → or_zero o ≡ v → o ≡ Some v
there_is (Some u) v some e = ap Some e
there_is _ v some e = absurd (cc some)

-- such a step takes none of what is retired away but what it takes
retired_on : (b : ℕ) (effects log : List Effect) → IsOneStep effects → times b (taken_in effects) ≡ 0 → is_retired b log ≡ true → is_retired b (effects ++ log) ≡ true
retired_on b [] log one none h = h
retired_on b (Entered c ∷ []) log one none h = h
retired_on b (Left c ∷ []) log one none h = h
retired_on b (Retired c ∷ []) log one none h = by (eqb b c)
  where
    by : (t : Bool) → cond t true (is_retired b log) ≡ true
    by true = refl
    by false = h
retired_on b (Taken c ∷ []) log one none h = grind (arith, h, none)
retired_on b (_ ∷ []) log one none h = absurd one
retired_on b (e ∷ f ∷ effects) log one none h = absurd one

module _ {K V : Type 0} {size : ℕ} (w : World (Node K V)) (r : Reached deferred_word size w) (slot first : ℕ) (one : HoldsOne w slot first) where
  abbrev b : ℕ
  b = one.block

  -- it is in a batch
  pub block_in_batch : InSome (r.good.state.life b)
  block_in_batch =
      guarded_in (r.good.state.life b) r.good.state.debt slot (r.good.inv.logged.guarded slot b (ap (holds slot b) r.good.logged ∙ one.held))
      (sym (r.good.inv.logged.given b) ∙ ap (is_retired b) r.good.logged ∙ one.retired)

  -- of which it says the first block
  pub first_of_batch : first ≡ first_or 0 (r.good.state.blocks block_in_batch.0)
  first_of_batch =
      sym (word_found w.memory (Entry b FIRST) first one.is_first)
      ∙ first_is (r.good.state.life b) (words_of w.memory (Entry b FIRST)) block_in_batch.0 r.good.state.blocks block_in_batch.1 (r.good.shows.linkage.first b)

  -- it is in a batch of the same blocks still
  pub record IsInStill (v : World (Node K V)) : Type 0 where
    pub good : Good deferred_word (LAST_SLOT + 1) size v
    pub sized : AllSized size v.row
    pub within : ℕ
    pub is : good.state.life b ≡ IsIn within
    pub same : good.state.blocks within ≡ r.good.state.blocks block_in_batch.0

  pub in_at_first : IsInStill w
  in_at_first = record { good = r.good; sized = r.sized; within = block_in_batch.0; is = block_in_batch.1; same = refl }

  -- whatever happens between rows
  module _ (v v2 : World (Node K V)) (was : IsInStill v) where
    still_by : (sized2 : AllSized size v2.row) (g : Good deferred_word (LAST_SLOT + 1) size v2) → SameBatches (LAST_SLOT + 1) was.good.state g.state → IsInStill v2
    still_by sized2 g a =
        let it = in_same (LAST_SLOT + 1) was.good.state was.good.inv g.state g.inv a was.within b was.is in
        record { good = g; sized = sized2; within = it.0; is = it.1; same = it.2 ∙ was.same }

    by_users : (e : Event (Node K V)) → IsStill e → Happens deferred_word size e v v2 → IsInStill v2
    by_users e still h =
        let g = users_good deferred_word (LAST_SLOT + 1) size refl v v2 was.good was.sized e still h in
        still_by (happens_sized deferred_word size v v2 was.sized e h) g.0 (same_alike (LAST_SLOT + 1) was.good.state g.0.state g.1.alike)

    between_in : (e : Event (Node K V)) → IsBetween e → Happens deferred_word size e v v2 → IsInStill v2
    between_in (Begin i request) u h = absurd u
    between_in (Step i) u h = absurd u
    between_in (LeavesOver i c further) u h =
        let g = leaves_over_good deferred_word (LAST_SLOT + 1) size v v2 was.good i c further h in
        still_by (happens_sized deferred_word size v v2 was.sized (LeavesOver i c further) h) g.0 (same_left (LAST_SLOT + 1) was.good.state g.0.state i c g.1)
    between_in (Makes i value words) u h = by_users (Makes i value words) tt h
    between_in (Drops i c) u h = by_users (Drops i c) tt h
    between_in (Links i c o) u h = by_users (Links i c o) tt h
    between_in (Parts i c) u h = by_users (Parts i c) tt h
    between_in (Unlinks i c) u h = by_users (Unlinks i c) tt h
    between_in (Rewrites i c value) u h = by_users (Rewrites i c value) tt h
    between_in (Operates op) u h = by_users (Operates op) tt h
    between_in (Ends i o) u h = by_users (Ends i o) tt h
    between_in (Relinks i c word) u h = by_users (Relinks i c word) tt h
    between_in (Clears i c) u h = by_users (Clears i c) tt h
    between_in (Chooses choice) u h = by_users (Chooses choice) tt h

  pub all_between_in : (events : List (Event (Node K V))) (v v2 : World (Node K V)) → AreBetween events → Runs deferred_word size events v v2 → IsInStill v → IsInStill v2
  all_between_in [] v v2 u runs was = subst IsInStill (sym runs) was
  all_between_in (e ∷ events) v v2 u runs was = all_between_in events runs.0 v2 u.1 runs.2 (between_in v runs.0 was e u.0 runs.1)

  -- so the batch has it, as long as the section holds it
  pub one_of_still : (v : World (Node K V)) → IsInStill v → holds slot b v.log ≡ true → HoldsOne v slot first
  one_of_still v was held = record {
    block = b;
    held = held;
    retired = ap (is_retired b) (sym was.good.logged) ∙ was.good.inv.logged.given b ∙ ap is_given was.is;
    is_first = there_is (word_at v.memory (Entry b FIRST)) first
        (was.good.stocked.entries b FIRST (was.good.shows.lists.lived b ∙ ap lives was.is) (omega arith))
        (first_is (was.good.state.life b) (words_of v.memory (Entry b FIRST)) was.within was.good.state.blocks was.is (was.good.shows.linkage.first b)
        ∙ ap (first_or 0) was.same ∙ sym first_of_batch);
  }

  -- and it is there
  pub there_still : (v : World (Node K V)) → IsInStill v → is_some (value_at v.memory b) ≡ true
  there_still v was = was.good.shows.lists.lived b ∙ ap lives was.is

  -- where a row takes a step
  pub step_keeps_one : (i : ℕ) (w2 : World (Node K V)) → IsInside (w.uses slot) → Steps' deferred_word i (w.row i) w w2 → HoldsOne w2 slot first
  step_keeps_one i w2 inside step =
      let d = did deferred_word size w r i w2 step in
      record {
        block = b;
        held = still_held deferred_word size w r i w2 step slot b inside one.held;
        retired = ap (is_retired b) d.logged ∙ retired_on b d.effects w.log d.one (not_taken deferred_word size w r i w2 step b (IsHeld slot one.held)) one.retired;
        is_first = row_keeps_first deferred_word w r i b (λ e. let is = block_in_batch.1 in cc (is, e)) (λ e. let is = block_in_batch.1 in cc (is, e)) w2 step ∙ one.is_first;
      }

  abbrev Then : World (Node K V) → Type 0
  Then v = HoldsOne v slot first

  -- and where one begins
  pub begin_keeps_one : (i : ℕ) (request : Request) (w2 : World (Node K V)) → Happens deferred_word size (Begin i request) w w2 → HoldsOne w2 slot first
  begin_keeps_one i request w2 h = by request h.1
    where
      by : (q : Request) → Begins deferred_word size i q w w2 → HoldsOne w2 slot first
      by (Register' enters) k = subst Then (sym k) (record { block = b; held = one.held; retired = one.retired; is_first = one.is_first })
      by (Enter' s) k = subst Then (sym k.1) (record { block = b; held = one.held; retired = one.retired; is_first = one.is_first })
      by (Leave' s) k = subst Then (sym k.1) (record { block = b; held = one.held; retired = one.retired; is_first = one.is_first })
      by (LeaveOwned s) k = subst Then (sym k.1) (record { block = b; held = one.held; retired = one.retired; is_first = one.is_first })
      by (Refresh s) k = subst Then (sym k.1) (record { block = b; held = one.held; retired = one.retired; is_first = one.is_first })
      by (Unregister' s) k = subst Then (sym k.1) (record { block = b; held = one.held; retired = one.retired; is_first = one.is_first })
      by (Retire s c) k = subst Then (sym k.2) (record { block = b; held = one.held; retired = one.retired; is_first = one.is_first })
      by (Flush s) k = subst Then (sym k.1) (record { block = b; held = one.held; retired = one.retired; is_first = one.is_first })
      by (Defer' s c t) k = subst Then (sym k.7) (record { block = b; held = held_on slot b (Deferred c t) w.log tt one.held; retired = one.retired; is_first = one.is_first })

module _ {K V : Type 0} {size : ℕ} (slot first : ℕ) (w : World (Node K V)) (r : Reached deferred_word size w) (one : HoldsOne w slot first) where
  -- so it is after all that users do
  pub runs_keep_one : (events : List (Event (Node K V))) (w2 : World (Node K V)) → IsInside (w.uses slot) → AllUsers events → Runs deferred_word size events w w2 → HoldsOne w2 slot first
  runs_keep_one events w2 inside users runs =
      one_of_still w r slot first one w2 (all_between_in w r slot first one events w w2 (all_between events users) runs (in_at_first w r slot first one))
      (events_hold size one.block slot events w w2 r inside users runs one.held)
