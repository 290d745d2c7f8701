-- A step of the end of a map: the block that it reclaims is next, and what was left to end but for that is left then.
use Rattle.std.specs.Prelude.{◌≡◌, ◌≢◌, ◌<◌, ◌≤◌, ◌⊎◌, ◌++◌, ℕ, Bool, false, List, [], ◌∷◌, Some, None}
use Rattle.std.proofs.Common.{refl, ap, sym, subst, ◌∙◌, arith, inl, inr}
use Rattle.std.proofs.lemmas.List.{append-nil, append_assoc}
use Rattle.seize_acts.specs.Given.SeizeWorld.{World, times}
use Rattle.seize_acts.specs.Given.SeizeDeclared.rows.settle.Settled.{Settled}
use Rattle.seize_acts.specs.Given.SeizeDeclared.rows.settle.Settled.TheVariants as settled
use Rattle.play_lists.specs.Given.TablesDeclared.node.Node.{Node}
use Rattle.run_logged.specs.Given.RawDeclared.machines.end_map.EndMap.{EndMap}
use Rattle.play_lists.specs.Given.FinishesEndings.{Finishing, FinishingFacts, StepsOfEnding, waiting_by}
use Rattle.play_lists.specs.Given.FinishesFactsEnds.{back_of, taken_by as taken_of}
use Rattle.run_logged.proofs.Given.CallersTogether.At.{at_same}
use Rattle.play_lists.proofs.Given.FinishesEnds.CountedBlocks.{later_apart, next_apart}
use Rattle.play_lists.proofs.Given.FinishesEnds.OrdersOn.{back_same}
use Rattle.play_lists.proofs.Given.FinishesEnds.OrdersOnce.{plain_order}
use Rattle.run_schedules.specs.declared.effect.Effect.{Effect}
use Rattle.run_schedules.specs.Schedules.Effects.{AtEachEffect, with_effects}
use Rattle.run_schedules.specs.Schedules.Moment.{Moment}
use Rattle.run_schedules.specs.Schedules.Views.{map_at}
use Rattle.play_lists.specs.Given.EffectsEffects.{effects_of, known_after, taken_by}
use Rattle.play_lists.specs.Given.EffectsKnown.{Known}
use Rattle.play_lists.specs.Given.EffectsDeclared.acting.Acting.TheVariants as acts
use Rattle.play_lists.specs.Given.EffectsDeclared.role.Role.TheVariants as role
use Rattle.play_lists.specs.Given.OthersEndings.{ObservesNext}
use Rattle.play_lists.specs.Given.ScenesEnding.{EndingHasOutcome, EndingLeads}
use Rattle.play_lists.specs.Given.ScenesHeld.{Held, IsAt}
use Rattle.play_lists.specs.Given.ScenesScene.{Scene, slot_of}
use Rattle.play_lists.specs.Given.EffectsDeclared.changed.Changed.{Changed}
use Rattle.play_lists.specs.Given.EffectsDeclared.changed.Changed.TheVariants as changed
use Rattle.run_logged.specs.Given.MomentsWhole.{RefinesWhole}
use Rattle.play_lists.proofs.Given.FollowsAlike.{put_elsewhere}
use Rattle.play_lists.proofs.Given.OthersEnds.{tells_next}
use Rattle.run_sweeps.specs.Given.Ends.{ended_as}
use Rattle.play_lists.proofs.Given.ShedsEndLists.{back_first, once}
use Rattle.run_logged.proofs.Log.EndTold.{did_end, noted_on}
use Rattle.run_schedules.specs.Deeds.Deeds.{named}
use Rattle.run_schedules.specs.Deeds.History.{EndFinds}
use Rattle.play_linear.specs.Linear.Coming.{Goes}
use Rattle.play_linear.proofs.Linear.Going.{as_noted, notes_all, notes_still}
use Rattle.play_lists.specs.MapsEnd.Ends.{AreStored, EndsWell}
use Rattle.play_lists.specs.MapsEnd.Going.{ContinuesToEnd}
use Rattle.play_lists.proofs.MapsEnd.Going.{NotedAlike, ended_alike, ends_on}

-- what comes behind the same is the same
pub behind_same : (xs ys zs : List ℕ) → xs ++ ys ≡ xs ++ zs → ys ≡ zs
behind_same [] ys zs e = e
behind_same (x ∷ xs) ys zs e = let later : xs ++ ys ≡ xs ++ zs = (cc e) in behind_same xs ys zs later

-- What the end of a map has reclaimed: it reclaims each block once.
module _ {K V : Type 0} (same : K → K → Bool) (size : ℕ) (w : World (Node K V)) (i : ℕ) (f : Finishing K V) (k : FinishingFacts same size w i f) where
  abbrev all : List ℕ
  all = back_of f.setting f.chart f.blocks (λ t. []) false

  pub each_once : (x : ℕ) → times x all ≤ 1
  each_once x = once same f.hash k.lawful f.setting f.chart f.blocks f.began (plain_order f.setting f.chart f.blocks same f.hash f.began k.stood.map k.stood.counter) x

  -- of those that it has still to reclaim it has reclaimed none
  pub rest_new : (rest : List ℕ) → all ≡ f.back ++ rest → (b : ℕ) → 0 < times b rest → times b f.back ≡ 0
  rest_new rest is b some = later_apart b all f.back rest each_once is some

module _ {K V : Type 0} (same : K → K → Bool) (hash : ℕ → K → ℕ) (m : Moment K V) (known : Known) (s : Scene K V) (old new : Held K V) (at : IsAt same hash old s) (whole : RefinesWhole same named m known s)
    (i : ℕ) (f : Finishing K V) (here : s.enders i ≡ Some f) (said : Settled (Node K V)) (leads : EndingLeads same hash i said s old new) (map : ℕ) (goes : Goes map f known s) (so : ContinuesToEnd map f known m) where
  abbrev e : EndMap
  e = (leads f here).0

  abbrev did : StepsOfEnding V same same old.batch_size old.roots slot_of s.world s.maps s.calls s.makers s.enders i f new.memory (e, said)
  did = (leads f here).2

  abbrev effects : List Effect
  effects = effects_of (acts.Ending map) known new.changed

  abbrev known_then : Known
  known_then = known_after (acts.Ending map) new.changed known

  abbrev v : Moment K V
  v = with_effects None (Some map) effects m

  facts : FinishingFacts same old.batch_size s.world i f
  facts = at.together.facts i f here

  pub tells : ObservesNext same hash s new i f e did.w2 did.deed said (leads f here).3 new.changed
  tells = tells_next same hash named m known s old new at whole.all.shown i f here e said (leads f here).1 did map goes.gone.not_there said (leads f here).3

  -- by a step that reclaims nothing nothing is done, and what is left is noted as it was
  pub none_done : taken_of did.deed ≡ [] → effects ≡ []
  none_done none =
      did_end same hash named m known s old new at whole i f here e said (leads f here).1 did map goes.gone.not_there (leads f here).3 goes.number (as_noted map f known s goes) (notes_all map f known s goes)
      (notes_still map f known s goes) ∙ ap (ended_as map (as_noted map f known s goes)) none

  none_noted : taken_of did.deed ≡ [] → NotedAlike so.rest known known_then
  none_noted none b some =
      let fresh = rest_new same old.batch_size s.world i f facts so.rest so.back_is b some in
      noted_on same hash named m known s old new at whole i f here e said (leads f here).1 did map goes.gone.not_there (leads f here).3 goes.number (as_noted map f known s goes) (notes_all map f known s goes)
      (notes_still map f known s goes) b (ap (λ (l : List ℕ). times b (f.back ++ l)) none ∙ ap (times b) (append-nil f.back) ∙ fresh) ∙ sym (notes_still map f known s goes b fresh)

  -- it does nothing, or takes a block away
  pub does : (effects ≡ []) ⊎ ((b : ℕ) × (new.changed ≡ changed.Took b))
  does = by said (leads f here).3 tells
    where
      by : (t : Settled (Node K V)) (c : EndingHasOutcome same hash s new i f e did.w2 did.deed t) → ObservesNext same hash s new i f e did.w2 did.deed t c new.changed → (effects ≡ []) ⊎ ((b : ℕ) × (new.changed ≡ changed.Took b))
      by settled.Goes c none = inl (none_done c.0)
      by settled.Waits c never = absurd c
      by (settled.Gave value) c took = inr (c.0, took)
      by settled.Done c none = inl (none_done c.0)

  -- So it goes on after a step by which it is not over, with what that has reclaimed.
  abbrev pub Then : List ℕ → Type 0
  Then gone = AtEachEffect (EndFinds map) None (Some map) effects m × ((machine : EndMap) (waits : List ℕ) → ContinuesToEnd map (record f { machine = machine; back = f.back ++ gone; waits = waits }) known_then v)

  pub none_then : taken_of did.deed ≡ [] → Then []
  none_then none = (
    subst (λ (l : List Effect). AtEachEffect (EndFinds map) None (Some map) l m) (sym (none_done none)) tt,
    λ machine waits. record {
      rest = so.rest;
      back_is = so.back_is ∙ ap (λ (l : List ℕ). l ++ so.rest) (sym (append-nil f.back));
      there = so.there;
      there_is = as_before (λ (w : Moment K V). map_at map w ≡ Some so.there) so.there_is;
      stored = as_before (AreStored map) so.stored;
      well = as_before (EndsWell map (ended_as map known_then so.rest)) (subst (λ (l : List Effect). EndsWell map l m) (sym (ended_alike map so.rest known known_then (none_noted none))) so.well);
    },
  )
    where
      as_before : (P : Moment K V → Type 0) → P m → P v
      as_before P was = subst (λ (l : List Effect). P (with_effects None (Some map) l m)) (sym (none_done none)) was

  -- one that reclaims a block
  module _ (value : Node K V) (c : EndingHasOutcome same hash s new i f e did.w2 did.deed (settled.Gave value)) (took : new.changed ≡ changed.Took c.0) where
    abbrev f2 : Finishing K V
    f2 = record f { machine = e; back = f.back ++ c.0 ∷ []; waits = f.waits ++ waiting_by did.deed }

    facts2 : FinishingFacts same new.batch_size did.w2 i f2
    facts2 = c.3.together.facts i f2 (at_same s.enders i (Some f2) i refl)

    later : (rest : List ℕ) × (so.rest ≡ c.0 ∷ rest)
    later =
        let it = back_first f.hash f.setting f.chart f.blocks facts2.lists false i did.w2 e facts2.past (f.back ++ c.0 ∷ []) e.stands facts2.facts.point in
        let split : all same old.batch_size s.world i f facts ≡ f.back ++ c.0 ∷ it.0 =
        back_same f.setting f.chart f.blocks facts2.lists (λ t. []) false refl ∙ it.1 ∙ append_assoc f.back (c.0 ∷ []) it.0 in
        (it.0, behind_same f.back so.rest (c.0 ∷ it.0) (sym so.back_is ∙ split))

    rest_apart : (b : ℕ) → 0 < times b later.0 → b ≢ c.0
    rest_apart b some same_block =
        let split : all same old.batch_size s.world i f facts ≡ f.back ++ c.0 ∷ later.0 = so.back_is ∙ ap (λ (l : List ℕ). f.back ++ l) later.1 in
        let none = (next_apart c.0 (all same old.batch_size s.world i f facts) f.back later.0 (each_once same old.batch_size s.world i f facts) split).1 in
        let there = subst (λ (x : ℕ). 0 < times x later.0) same_block some in omega (arith, none, there)

    noted : NotedAlike later.0 known known_then
    noted b some = ap (λ (x : Changed). (known_after (acts.Ending map) x known).roles b) took ∙ put_elsewhere c.0 role.Free known.roles b (rest_apart b some)

    effects_are : effects ≡ taken_by (acts.Ending map) (known.roles c.0)
    effects_are = ap (effects_of (acts.Ending map) known) took

    split_ends : AtEachEffect (EndFinds map) None (Some map) effects m × AreStored map v × EndsWell map (ended_as map known later.0) v
    split_ends =
        subst (λ (fs : List Effect). AtEachEffect (EndFinds map) None (Some map) fs m × AreStored map (with_effects None (Some map) fs m) × EndsWell map (ended_as map known later.0) (with_effects None (Some map) fs m))
        (sym effects_are)
        (ends_on map (taken_by (acts.Ending map) (known.roles c.0)) (ended_as map known later.0) m so.stored (subst (λ (l : List ℕ). EndsWell map (ended_as map known l) m) later.1 so.well))

    pub one_then : map_at map v ≡ map_at map m → Then (c.0 ∷ [])
    one_then same_there = (
      split_ends.0,
      λ machine waits. record {
        rest = later.0;
        back_is = so.back_is ∙ ap (λ (l : List ℕ). f.back ++ l) later.1 ∙ sym (append_assoc f.back (c.0 ∷ []) later.0);
        there = so.there;
        there_is = same_there ∙ so.there_is;
        stored = split_ends.1;
        well = subst (λ (l : List Effect). EndsWell map l v) (sym (ended_alike map later.0 known known_then noted)) split_ends.2;
      },
    )
