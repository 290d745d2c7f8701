-- Whichever caller takes a step of its end of a map, it may take it, and all stand together again; once it is over, the map has ended.
use Rattle.std.specs.Prelude.{Option, Some, None, map}
use Rattle.std.proofs.Common.{◌≡◌, ℕ, ◌<◌, ◌≤◌, ◌⊎◌, Bool, false, List, [], ◌∷◌, ◌++◌, refl, arith, ap, sym, subst, ◌∙◌, inl, inr}
use Rattle.std.proofs.lemmas.List.{append-nil}
use Rattle.many_calls.specs.Given.SeizeWordsDeclared.at.At.TheVariants.{Used}
use Rattle.many_calls.specs.Given.SeizeWordsMem.{Mem, word_at}
use Rattle.many_calls.specs.Given.SeizeLaw.{With}
use Rattle.many_calls.specs.Given.SeizeWorld.{World, Runs, Hand, InUse, IsNotLeft, times, with_at}
use Rattle.many_calls.specs.Given.SeizeDeclared.rows.settle.Settled.{Settled}
use Rattle.many_calls.specs.Given.SeizeDeclared.rows.settle.Settled.TheVariants as settled
use Rattle.many_calls.specs.Given.TablesChunks.{is_incremental}
use Rattle.many_calls.specs.Given.TablesNodes.{deferred_word}
use Rattle.many_calls.specs.Given.TablesDeclared.node.Node.{Node}
use Rattle.many_calls.specs.Given.RawDeclared.machines.end_map.EndMap.{EndMap}
use Rattle.many_calls.specs.Given.RawDeclared.machines.end_map.Ending.{Ending}
use Rattle.many_calls.specs.Given.RawDeclared.machines.end_map.Ending.TheVariants as at
use Rattle.many_calls.specs.Kept.{IsPair}
use Rattle.many_maps.specs.Makings.{Beginning}
use Rattle.many_maps.specs.Maps.{Standing}
use Rattle.many_calls.specs.Together.{UnderWay}
use Rattle.many_calls.proofs.Together.Came.{came_reached, came_on}
use Rattle.many_maps.specs.Endings.{IsDoneTo, Finishing, HasCounter, FinishingFacts, HasFinished, EndingsTogether, FinishingOutcome, EndingsStand, waiting_by}
use Rattle.many_maps.specs.FactsEnds.{Deed, Looks, TakesPair, LeavesTable, JoinsPair, TakesLeft, TakesCounter, WritesRoot, events_of, RootIs, RootAt, EndingFacts, EndFacts, HasEnded, EndOutcome, EndStepSpec, back_of, from_table, wait_before}
use Rattle.many_maps.specs.Orders.{pairs_of}
use Rattle.many_maps.proofs.Among.Own.Apart.{DoesNew, DoesIts, Did}
use Rattle.many_maps.proofs.Among.Own.Makings.{IsRoot}
use Rattle.many_maps.proofs.Among.Own.Together.{ends_stand}
use Rattle.many_maps.proofs.Among.Own.Waiting.{TakesSo, takes_so, waiting_on}
use Rattle.many_maps.proofs.Ends.CountedBlocks.{none_before, some_last, some_of_first}
use Rattle.many_maps.proofs.Ends.Frames.{that_one}
use Rattle.many_maps.proofs.Ends.Known.{back_once}
use Rattle.many_maps.proofs.Ends.OrdersOn.{back_same, table_later, wait_more}
use Rattle.many_maps.proofs.Ends.Points.{end_steps}
use Rattle.many_maps.proofs.Ends.SinceOn.{theirs_on}

-- what waits behind a root says that it is taken, and what doesn't that it leads nowhere
pub root_of_waits : {K V : Type 0} (w : World (Node K V)) (f : Finishing K V) (l : List ℕ) → RootIs f.setting w.memory l → IsRoot w f.setting.root
root_of_waits w f [] h = (0, h.1, λ none. h.0)
root_of_waits w f (x ∷ l) h = (1, h.3, λ none. absurd (omega (arith, none)))

module _ {K V : Type 0} (same : K → K → Bool) (batch_size : ℕ) (w : World (Node K V)) (i : ℕ) (f : Finishing K V) (facts : FinishingFacts same batch_size w i f) (w2 : World (Node K V))
    (did : Did same batch_size w i f facts w2) where
  abbrev Facts : EndMap → List ℕ → Type 0
  Facts e back = EndFacts f.setting f.chart f.blocks facts.lists false i f.hash f.began w2 e did.past2 back

  -- what waits of the tables before this one
  abbrev waits_at : ℕ → List ℕ
  waits_at past = wait_before f.setting f.chart f.blocks facts.lists false past

  taken : word_at w2.memory (Used f.setting.root) ≡ Some 1 → IsRoot w2 f.setting.root
  taken is = (1, is, λ none. absurd (omega (arith, none)))

  -- until it is over its root is taken
  root_at : (e : EndMap) (back : List ℕ) (stage : Ending) → RootAt f.hash f.setting f.chart f.blocks w2.memory stage
      → EndingFacts f.setting f.chart f.blocks facts.lists false i f.hash w2 e did.past2 back stage → IsRoot w2 f.setting.root
  root_at e back at.Reads (a, b) h = taken b
  root_at e back at.Words (a, b) h = taken b
  root_at e back (at.Takes pair) (a, b) h = taken b
  root_at e back at.Nexts (a, b) h = taken b
  root_at e back at.Carries (a, b) h = taken b
  root_at e back (at.Joins pair) (a, b) h = taken b
  root_at e back (at.Follows pair) (a, b) h = taken b
  root_at e back (at.Gives pair next) (a, b) h = taken b
  root_at e back at.Afters (a, b) h = taken b
  root_at e back (at.Drops next) (a, b) h = taken b
  root_at e back at.Shards (a, b) h = taken b
  root_at e back at.Sets (a, b) h = taken b
  root_at e back at.Frees (a, b) h = taken b
  root_at e back at.Over a h = absurd h

  pub goes_root : (e : EndMap) (back : List ℕ) → Facts e back → IsRoot w2 f.setting.root
  goes_root e back h = root_at e back e.stands h.root h.point

  -- what waits then
  waits_then : (deed : Deed) (past2 : ℕ) → DoesIts same batch_size w i f facts past2 deed
      → f.waits ++ waiting_by deed ≡ waits_at past2
  waits_then deed past2 its = ap (λ (l : List ℕ). l ++ waiting_by deed) facts.waits_are ∙ by deed its
    where
      still : past2 ≡ facts.past → waits_at facts.past ++ [] ≡ waits_at past2
      still is = append-nil (waits_at facts.past) ∙ ap waits_at (sym is)

      by : (deed : Deed) → DoesIts same batch_size w i f facts past2 deed
          → waits_at facts.past ++ waiting_by deed ≡ waits_at past2
      by Looks is = still is
      by (TakesPair b) k = still k.0
      by (LeavesTable b further) (is, used, behind, from, made, named, list) =
          ap (λ (l : List ℕ). waits_at facts.past ++ l) list
          ∙ sym (wait_more f.setting f.chart f.blocks facts.lists false facts.past from) ∙ ap waits_at (sym is)
      by (JoinsPair b word) k = still k.0
      by (TakesLeft b) k = still k.0
      by (TakesCounter b) k = still k.0
      by (WritesRoot place word) k = still k.0

  -- it goes on, and knows so
  pub goes_facts : (e : EndMap) (back : List ℕ) → Facts e back → FinishingFacts same batch_size w2 i (record f { machine = e; back = back; waits = f.waits ++ waiting_by did.deed })
  goes_facts e back h = record {
    lawful = facts.lawful;
    batches = facts.batches;
    lists = facts.lists;
    past = did.past2;
    stood = facts.stood;
    facts = h;
    theirs = theirs_on f.setting f.chart f.blocks facts.lists false i w w2 facts.past batch_size (came_reached batch_size w did.came) facts.theirs did.deed did.past2 did.spares did.its;
    each = facts.each;
    waits_are = waits_then did.deed did.past2 did.its;
    waiting = waiting_on same batch_size w i f facts w2 did;
  }

  -- a step that ends it leaves no table over: all were reclaimed before
  past_same : (deed : Deed) (past2 : ℕ) → DoesIts same batch_size w i f facts past2 deed → DoesNew same batch_size w i f facts deed
      → back_of f.setting f.chart f.blocks facts.lists false ≡ f.back → past2 ≡ facts.past
  past_same Looks past2 is fresh all = is
  past_same (TakesPair b) past2 k fresh all = k.0
  past_same (LeavesTable b further) past2 (is, used, behind, from, made, named, list) fresh all =
      absurd (let none = fresh.0 in let some = subst (λ (x : ℕ). 0 < times x f.back) (sym named) there in omega (arith, none, some))
    where
      there : 0 < times (f.blocks.table facts.past) f.back
      there = subst (λ (l : List ℕ). 0 < times (f.blocks.table facts.past) l) all
          (some_last (f.blocks.table facts.past) (map f.blocks.pair (pairs_of (is_incremental f.setting.mode) f.chart)) (from_table f.setting f.chart f.blocks facts.lists false f.chart.first)
          (table_later f.setting f.chart f.blocks facts.lists false facts.past f.chart.first from made))
  past_same (JoinsPair b word) past2 k fresh all = k.0
  past_same (TakesLeft b) past2 k fresh all = k.0
  past_same (TakesCounter b) past2 k fresh all = k.0
  past_same (WritesRoot place word) past2 k fresh all = k.0

  -- it is over
  module _ (h : HasEnded f.setting f.chart f.blocks facts.lists false i f.hash f.began w2 did.past2 f.back) where
    pub over_root : IsRoot w2 f.setting.root
    over_root = root_of_waits w2 f (waits_at did.past2) h.root

    waits_end : waits_at did.past2 ≡ f.waits
    waits_end = ap waits_at (past_same did.deed did.past2 did.its did.fresh h.back_is) ∙ sym facts.waits_are

    pub has_finished : HasFinished w2.memory f
    has_finished = record {
      back_is = sym h.back_is ∙ sym (back_same f.setting f.chart f.blocks facts.lists (λ t. []) false refl);
      root = subst (λ (l : List ℕ). RootIs f.setting w2.memory l) waits_end h.root;
      once = λ x. (
        subst (λ (l : List ℕ). times x l ≤ 1) h.back_is (back_once same f.hash facts.lawful f.setting f.chart f.blocks facts.lists false i f.began facts.stood x),
        subst (λ (l : List ℕ). times x l ≤ 1) (sym facts.waits_are) (facts.facts.since.once x),
      );
    }

-- what a deed is done to
module _ {K Q : Type 0} (V : Type 0) (same : K → K → Bool) (asks : Q → K → Bool) (batch_size roots : ℕ) (slot : ℕ → ℕ)
    (w : World (Node K V)) (maps : ℕ → Option (Standing K)) (calls : ℕ → ℕ → Option (UnderWay K V Q)) (makers : ℕ → Option (Beginning K)) (enders : ℕ → Option (Finishing K V))
    (i : ℕ) (f : Finishing K V) (facts : FinishingFacts same batch_size w i f) where
  abbrev To : Deed → Type 0
  To deed = IsDoneTo V same asks batch_size roots slot w maps calls makers enders i f deed

  none : {X : Type 0} (x : ℕ) → 0 < times x [] → X
  none x some = absurd (omega (arith, some))

  hand_of : (x b : ℕ) (h : Hand) → x ≡ b → w.hand b ≡ h → w.hand x ≡ h
  hand_of x b h e is = ap w.hand e ∙ is

  takes : (past2 : ℕ) (deed : Deed) → DoesIts same batch_size w i f facts past2 deed → DoesNew same batch_size w i f facts deed → TakesSo same batch_size w i f facts deed
  takes past2 deed its fresh = takes_so same batch_size w i f facts past2 deed its fresh

  done_to : (past2 : ℕ) (deed : Deed) → DoesIts same batch_size w i f facts past2 deed → DoesNew same batch_size w i f facts deed → To deed
  done_to past2 Looks its fresh = record { takes = takes past2 Looks its fresh; leaves = λ x on. none x on; joins = λ x on. none x on; over = λ x on. none x on }
  done_to past2 (TakesPair b) its fresh = record { takes = takes past2 (TakesPair b) its fresh; leaves = λ x on. none x on; joins = λ x on. none x on; over = λ x on. none x on }
  done_to past2 (LeavesTable b further) its fresh = record {
    takes = takes past2 (LeavesTable b further) its fresh;
    leaves = λ x on. (elim (some_of_first x b further on) as (λ _. IsNotLeft (w.hand x)) [
      | inl e ↦ subst IsNotLeft (sym (hand_of x b (InUse f.setting.counter) e its.1)) tt
      | inr there ↦ subst IsNotLeft (sym (its.2.theirs x there).0) tt
    ]);
    joins = λ x on. none x on;
    over = λ x on. (elim (some_of_first x b further on) as (λ _. IsPair w x ⊎ ((times x f.back ≡ 0) × ((t : ℕ) × (f.chart.first ≤ t) × (t < f.chart.past) × (x ≡ f.blocks.table t)))) [
      | inl e ↦ inr (subst (λ (y : ℕ). times y f.back ≡ 0) (sym e) fresh.0, (facts.past, its.3, its.4, e ∙ its.5))
      | inr there ↦ inl (facts.theirs facts.past x its.3 (omega arith) its.4 ((its.2.theirs x there).1 ∙ ap With its.5)).pair
    ]);
  }
  done_to past2 (JoinsPair b word) its fresh = record {
    takes = takes past2 (JoinsPair b word) its fresh;
    leaves = λ x on. none x on;
    joins = λ x on. subst (λ (l : List ℕ). 0 < times x l) (sym facts.waits_are)
        (subst (λ (y : ℕ). 0 < times y (wait_before f.setting f.chart f.blocks facts.lists false facts.past)) (sym (that_one x b on)) its.2);
    over = λ x on. none x on;
  }
  done_to past2 (TakesLeft b) its fresh = record { takes = takes past2 (TakesLeft b) its fresh; leaves = λ x on. none x on; joins = λ x on. none x on; over = λ x on. none x on }
  done_to past2 (TakesCounter b) its fresh = record { takes = takes past2 (TakesCounter b) its fresh; leaves = λ x on. none x on; joins = λ x on. none x on; over = λ x on. none x on }
  done_to past2 (WritesRoot place word) its fresh = record { takes = takes past2 (WritesRoot place word) its fresh; leaves = λ x on. none x on; joins = λ x on. none x on; over = λ x on. none x on }

module _ {K Q : Type 0} (V : Type 0) (same : K → K → Bool) (asks : Q → K → Bool) (batch_size roots : ℕ) (slot : ℕ → ℕ) where
  module _ (w : World (Node K V)) (maps : ℕ → Option (Standing K)) (calls : ℕ → ℕ → Option (UnderWay K V Q)) (makers : ℕ → Option (Beginning K)) (enders : ℕ → Option (Finishing K V))
      (all : EndingsTogether V same asks batch_size roots slot w maps calls makers enders) (i : ℕ) (f : Finishing K V) (is : enders i ≡ Some f) (m2 : Mem (Node K V)) (end : EndMap × Settled (Node K V))
      (went : EndStepSpec f.setting f.chart f.blocks (all.facts i f is).lists false i f.hash f.began w (all.facts i f is).past f.back m2 end) where
    its_runs : Runs deferred_word batch_size (events_of i went.deed) w went.w2
    its_runs = subst (λ (n : ℕ). Runs deferred_word n (events_of i went.deed) w went.w2) (all.facts i f is).batches went.runs

    abbrev did : Did same batch_size w i f (all.facts i f is) went.w2
    did = record {
      deed = went.deed;
      past2 = went.past2;
      came = all.makings.standing.came;
      came2 = came_on batch_size w went.w2 (events_of i went.deed) all.makings.standing.came its_runs;
      fresh = went.fresh;
      spares = went.spares;
      its = went.its;
    }

    -- it goes on
    module _ (e : EndMap) (back : List ℕ) (h : EndFacts f.setting f.chart f.blocks (all.facts i f is).lists false i f.hash f.began went.w2 e went.past2 back)
        (counter : times f.setting.counter back ≡ 0 → HasCounter f) where
      abbrev next : Finishing K V
      next = record f { machine = e; back = back; waits = f.waits ++ waiting_by went.deed }

      goes_on : EndingsTogether V same asks batch_size roots slot went.w2 maps calls makers (with_at enders i (Some next))
      goes_on = ends_stand V same asks batch_size roots slot w maps calls makers enders all i f is went.w2 did (goes_root same batch_size w i f (all.facts i f is) went.w2 did e back h) (Some next)
          (λ g at. subst (λ (x : Finishing K V). FinishingFacts same batch_size went.w2 i x × (x.setting ≡ f.setting) × (HasCounter x → HasCounter f)) (same_end next g at)
          (goes_facts same batch_size w i f (all.facts i f is) went.w2 did e back h, refl, counter))
        where
          same_end : (x y : Finishing K V) → ◌≡◌ {A = Option (Finishing K V)} (Some x) (Some y) → x ≡ y
          same_end x y e = cc e

    told_at : (end : EndMap × Settled (Node K V)) → EndOutcome f.setting f.chart f.blocks (all.facts i f is).lists false i f.hash f.began w went.w2 went.deed went.past2 f.back end
        → FinishingOutcome V same asks batch_size roots slot w maps calls makers enders i f went.w2 went.deed end
    told_at (e, settled.Goes) (none, h) = (none, goes_on e f.back h (λ counter. counter))
    told_at (e, settled.Waits) h = h
    told_at (e, settled.Gave value) (b, taken, there, h) = (b, there, taken, goes_on e (f.back ++ b ∷ []) h (λ counter. (none_before f.setting.counter b f.back counter).0))
    told_at (e, settled.Done) (none, h) = (
      none,
      has_finished same batch_size w i f (all.facts i f is) went.w2 did h,
      ends_stand V same asks batch_size roots slot w maps calls makers enders all i f is went.w2 did (over_root same batch_size w i f (all.facts i f is) went.w2 did h) None (λ g at. absurd (cc at)),
    )

  -- the promise
  pub endings_stand : EndingsStand V same asks batch_size roots slot
  endings_stand w maps calls makers enders all i f is =
      let facts = all.facts i f is in
      let steps = end_steps same f.hash facts.lawful f.setting f.chart f.blocks facts.lists false i f.began facts.stood w f.machine facts.past f.back facts.facts in (
        steps.0,
        λ m2 end s.
            let went = steps.1 m2 end s in
            record {
              w2 = went.w2;
              deed = went.deed;
              runs = its_runs w maps calls makers enders all i f is m2 end went;
              memory = went.memory;
              spares = went.spares;
              done_to = done_to V same asks batch_size roots slot w maps calls makers enders i f facts went.past2 went.deed went.its went.fresh;
              told = told_at w maps calls makers enders all i f is m2 end went end went.told;
            },
      )
