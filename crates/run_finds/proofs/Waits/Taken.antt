-- Where a pair lies that a step of a call which is none of a row takes out of its map: at the place whose word the step has written, which said whether the pair was borrowed there.
use Rattle.std.specs.Prelude.{◌≡◌, ℕ, ◌<◌, ◌≤◌, Bool, true, false, List, [], ◌∷◌, length, Some}
use Rattle.std.proofs.Common.{refl, ap, sym, subst, ◌∙◌, inl, inr, arith}
use Rattle.std.proofs.lemmas.Bool.{cases_lt}
use Rattle.run_executor.specs.Given.SeizeWordsMem.{Mem}
use Rattle.run_executor.specs.Given.SeizeWordsDeclared.at.At.{At}
use Rattle.run_executor.specs.Given.SeizeWorld.{World, IsInside}
use Rattle.run_blocks.specs.Given.TablesChunks.{is_incremental}
use Rattle.run_blocks.specs.Given.TablesDeclared.node.Node.{Node}
use Rattle.run_blocks.specs.Given.TablesDeclared.setting.Setting.{Setting}
use Rattle.run_executor.specs.Given.RunsDeclared.effect.Effect.{Effect}
use Rattle.run_executor.specs.Given.RunsDeclared.effect.Effect.TheVariants as effect
use Rattle.run_executor.specs.Given.RunsDeclared.effect.Spot.{Spot}
use Rattle.run_executor.specs.Given.SchedulesMoment.{Moment}
use Rattle.run_executor.specs.Given.EffectsDeclared.changed.Changed.{Changed}
use Rattle.run_executor.specs.Given.EffectsDeclared.changed.Changed.TheVariants as changed
use Rattle.run_executor.specs.Given.TellsSeen.{Seen, Unseen, Wrote, seen_of}
use Rattle.run_executor.specs.Given.TellsTells.{place_at, IsSeenAs, IsObserved}
use Rattle.run_executor.proofs.Given.TellsPromised.{operations_tell, still_steps_tell}
use Rattle.run_executor.specs.Given.RuleChart.{Still, Holds, Chart}
use Rattle.run_executor.specs.Given.RuleInWorld.{IsMapIn, Moved, StepSpec}
use Rattle.run_executor.specs.Given.RuleMaps.{spot_of}
use Rattle.run_executor.specs.Given.RuleMoves.{Move, Links, Stores, Replaces, Removes, Marks, MarksBlocking, Skips, Unmarks, Puts, Covers, PutsLate, Claims, Reclaims, Counts, GivesUp, Aborts, Promotes, Announces, MayChange, Allowed}
use Rattle.run_executor.specs.Given.RuleRule.{Rule}
use Rattle.run_executor.specs.Given.RuleWords.{Blocks, place_word}
use Rattle.run_executor.proofs.Given.RuleLaws.{current_is_known}
use Rattle.run_executor.proofs.Given.RuleMoves.StoodAlone.{alone_there, never_later}
use Rattle.run_executor.proofs.Given.RuleWorld.WentTold.{went_as}
use Rattle.run_executor.specs.Given.PointsSteps.{AreLawful}
use Rattle.run_executor.specs.Given.CallersSights.{Visible, seen_by, IsGrown, IsVisibility}
use Rattle.run_executor.specs.Given.CallersTogether.{in_slot, Together}
use Rattle.run_executor.proofs.Given.CallersSights.Seen.{map_seen}
use Rattle.run_executor.proofs.Given.CallersTogether.Fits.{map_in_slot}
use Rattle.run_executor.specs.Given.EffectsEffects.{effects_of}
use Rattle.run_executor.specs.Given.EffectsKnown.{Known}
use Rattle.run_executor.specs.Given.EffectsDeclared.acting.Acting.TheVariants.{Call}
use Rattle.run_executor.specs.Given.FinishesMaps.{Standing}
use Rattle.run_executor.specs.Given.FollowsMaps.{RefinesMap}
use Rattle.run_executor.specs.Given.FollowsShows.{Refines}
use Rattle.run_executor.proofs.Given.FollowsAlike.{AllCalm}
use Rattle.run_executor.proofs.Given.FollowsOperations.{LeavesBy, Operated, operated_leaves, seen_write, told_write}
use Rattle.run_executor.proofs.Given.FollowsStored.{inside, still_current, still_home}
use Rattle.run_executor.specs.Given.SpotsSpots.{named_by, spot_in, LiesAt, RefinesPlaces}
use Rattle.run_executor.proofs.Given.SpotsDone.{DidBy, DidMoved, did_moved}
use Rattle.run_executor.proofs.Given.SpotsNames.{holds_is}
use Rattle.run_blocks.specs.Given.SettlesInHand.{TakesPair}
use Rattle.run_executor.specs.Given.ScenesHeld.{Held, IsAt}
use Rattle.run_executor.specs.Given.ScenesScene.{Scene, slot_of}

-- one that takes a pair out by itself
abbrev is_removal : Effect → Bool
is_removal (effect.Removed n) = true
is_removal _ = false

no_removal : (k : ℕ) (effects : List Effect) (f : Effect) → effects ≡ f ∷ [] → is_removal f ≡ false → TakesPair effects k → ⊥
no_removal k effects f are none (inl is) = (let one : effect.Removed k ≡ f = (let both = sym is ∙ are in cc both) in let some : true ≡ is_removal f = ap is_removal one in cc (some, none))
no_removal k effects f are none (inr (n, s, is)) = (let both = sym is ∙ are in cc both)

calm_none : (k : ℕ) (effects : List Effect) → AllCalm effects → TakesPair effects k → ⊥
calm_none k effects calm (inl is) = (let no = (subst AllCalm is calm).0 in cc no)
calm_none k effects calm (inr (n, s, is)) = (let no = (subst AllCalm is calm).0 in cc no)

-- A pair that may be changed lies where it is changed.
module _ {K : Type 0} (same : K → K → Bool) (hash : K → ℕ) (c : Chart K) (t i n : ℕ) (borrowed : Bool) (k : K) (has : c.place t i ≡ Holds n Still borrowed) (lawful : AreLawful same hash) where
  lies_there : (q : Bool) → Rule same (spot_of hash) q c → MayChange same (spot_of hash) q c t k → (at : Spot) (born : ℕ) → LiesAt c q n at born → at ≡ spot_in t i
  lies_there true r may at born h =
      let it = holds_is (c.place at.turn at.place) n _ h.1 in
      let before : t ≤ at.turn = h.2 t i borrowed (ap named_by has) in
      let turn : at.turn ≡ t = elim (cases_lt t at.turn) as (λ _. at.turn ≡ t) [
        | inl l ↦ absurd (never_later same (spot_of hash) lawful.lawful c r.common r.in_mode t at.turn i at.place n it.0 borrowed _ has it.1 l)
        | inr l ↦ omega (arith, l, before)
      ] in
      let place = (alone_there same (spot_of hash) true lawful.lawful c r.common t at.place i n it.0 Still _ borrowed (r.in_mode.never_aborted t) (ap (λ (x : ℕ). c.place x at.place) (sym turn) ∙ it.1) has).0 in
      ap (λ (x : ℕ). spot_in x at.place) turn ∙ ap (spot_in t) place
  lies_there false r may at born h =
      let it = holds_is (c.place at.turn at.place) n false h.1 in
      let turn : at.turn ≡ t = h.0 ∙ sym may in
      let place = (alone_there same (spot_of hash) false lawful.lawful c r.common c.first at.place i n it.0 Still false borrowed r.common.live
      (ap (λ (x : ℕ). c.place x at.place) (sym h.0) ∙ it.1) (ap (λ (x : ℕ). c.place x i) (sym may) ∙ has)).0 in
      ap (λ (x : ℕ). spot_in x at.place) turn ∙ ap (spot_in t) place

module _ {K V : Type 0} (same : K → K → Bool) (hash : ℕ → K → ℕ) (m : Moment K V) (known : Known) (s : Scene K V) (old new : Held K V) (at : IsAt same hash old s)
    (name : ℕ → List ℕ) (shown : Refines same name m known s) (lying : RefinesPlaces m known s.maps) (map i : ℕ) (standing : Standing K) (there : s.maps map ≡ Some standing)
    (made : Operated s.world.memory new.memory new.changed) (inside_it : IsInside (s.world.uses (slot_of i))) (k : ℕ) where
  abbrev m2 : Mem (Node K V)
  m2 = new.memory

  abbrev told : Changed
  told = new.changed

  abbrev w : World (Node K V)
  w = s.world

  abbrev effects : List Effect
  effects = effects_of (Call i map) known told

  abbrev setting : Setting
  setting = in_slot standing.setting (slot_of i)

  abbrev sight : Visible
  sight = standing.sights (slot_of i)

  abbrev c : Chart K
  c = standing.chart

  abbrev seen : Blocks
  seen = seen_by standing.blocks sight

  abbrev q : Bool
  q = is_incremental standing.setting.mode

  -- it lay at this place, whose word was written
  pub record TookPair : Type 0 where
    pub t : ℕ
    pub place : ℕ
    pub n : ℕ
    pub borrowed : Bool
    pub word : ℕ
    pub held : c.place t place ≡ Holds n Still borrowed
    pub wrote : told ≡ changed.Wrote (place_at seen t place) (place_word standing.hash c seen (Holds n Still borrowed)) word
    pub within : t < c.past
    pub table_seen : sight.tables t ≡ true
    pub lies : LiesAt c q n (m.spot k) (m.born k).turn
    pub spot : m.spot k ≡ spot_in t place
    pub stored : k ≤ length m.stored

  here : Together V same standing.hash same standing.setting slot_of w standing.chart standing.blocks standing.sights (s.calls map)
  here = at.together.makings.standing.each map standing there

  pub lawful : AreLawful same standing.hash
  lawful = (at.together.makings.standing.fit map standing there).0

  left : LeavesBy w.memory m2 told
  left = operated_leaves w.memory m2 told made

  pub is_sight : IsVisibility standing.chart standing.blocks sight
  is_sight = (here.ground.sight (slot_of i) inside_it).0

  pub is_map : IsMapIn same standing.hash setting w standing.chart (seen_by standing.blocks sight)
  is_map = map_seen same standing.hash setting w standing.chart standing.blocks sight (map_in_slot same standing.hash standing.setting w standing.chart standing.blocks (slot_of i) here.ground.map) is_sight

  abbrev shown_map : RefinesMap map (shown.number map) standing m known
  shown_map = shown.maps map standing there

  rule : Rule same (spot_of standing.hash) q c
  rule = is_map.map.rule

  -- where a pair of the map lies
  where_it_lies : (n : ℕ) → c.current n ≡ true → LiesAt c q n (m.spot (shown.number map n)) (m.born (shown.number map n)).turn × (shown.number map n ≤ length m.stored)
  where_it_lies n current =
      let it = current_is_known same standing.hash standing.setting w.memory standing.chart standing.blocks here.ground.map.map.rule here.ground.map.map.shows n current in (
        (lying.each map standing there).lies n (shown.number map n) (it.0, it.1, shown_map.pairs.roles n it.0 it.1) current,
        (shown_map.pairs.numbered n it.0).1,
      )

  make : (t j n : ℕ) (borrowed : Bool) (key : K) (word : ℕ) → c.place t j ≡ Holds n Still borrowed → MayChange same (spot_of standing.hash) q c t key → k ≡ shown.number map n
      → told ≡ changed.Wrote (place_at seen t j) (place_word standing.hash c seen (Holds n Still borrowed)) word → TookPair
  make t j n borrowed key word held may is wrote =
      let lies = where_it_lies n (still_current same (spot_of standing.hash) c t j n borrowed key held q rule may) in
      let its : LiesAt c q n (m.spot k) (m.born k).turn = subst (λ (x : ℕ). LiesAt c q n (m.spot x) (m.born x).turn) (sym is) lies.0 in
      let there_it = inside same (spot_of standing.hash) c t j n borrowed key held q rule in
      let home = still_home same (spot_of standing.hash) c t j n borrowed key held q rule may in
      record {
        t = t;
        place = j;
        n = n;
        borrowed = borrowed;
        word = word;
        held = held;
        wrote = wrote;
        within = there_it.0;
        table_seen = is_sight.linked t home there_it.0;
        lies = its;
        spot = lies_there same standing.hash c t j n borrowed key held lawful q rule may (m.spot k) (m.born k).turn its;
        stored = subst (λ (x : ℕ). x ≤ length m.stored) (sym is) lies.1;
      }

  module _ (Told : World (Node K V) → Chart K → Blocks → Type 0) (had : StepSpec same standing.hash setting i w standing.chart (seen_by standing.blocks sight) m2 Told)
      (blocks2 : Blocks) (grown : IsGrown standing.chart standing.blocks had.blocks2 blocks2) (sights2 : ℕ → Visible) where
    abbrev went : StepSpec same standing.hash setting i w standing.chart (seen_by standing.blocks sight) m2 (λ w2 c2 blocks2. Unit {0})
    went = went_as same standing.hash setting i w standing.chart (seen_by standing.blocks sight) m2 Told (λ w2 c2 blocks2. Unit {0}) (λ w2 c2 blocks2 map moved alike told. tt) had

    abbrev DidIt : Moved same standing.hash setting.mode i standing.chart went.c2 → Type 0
    DidIt = DidMoved same (slot_of i) i map (Some (name i)) (shown.number map) standing lawful w sight is_sight is_map m2 (λ w2 c2 blocks2. Unit {0}) went blocks2 grown sights2 m known (shown.maps map standing there) shown.blocks told left

    abbrev By : Move K → Type 0
    By = DidBy same (slot_of i) i map (Some (name i)) (shown.number map) standing lawful w sight is_sight is_map m2 (λ w2 c2 blocks2. Unit {0}) went blocks2 grown sights2 m known (shown.maps map standing there) shown.blocks told left

    abbrev Saw : Move K → Seen (Node K V) → Type 0
    Saw move seen_so = IsSeenAs standing.hash setting c seen went.c2 went.blocks2 move seen_so

    -- it took the pair of this number, by the place that it has written
    over : (t j n n2 : ℕ) (b b2 : Bool) (key : K) (word : ℕ) → c.place t j ≡ Holds n Still b → c.place t j ≡ Holds n2 Still b2 → MayChange same (spot_of standing.hash) q c t key → k ≡ shown.number map n
        → told ≡ changed.Wrote (place_at seen t j) (place_word standing.hash c seen (Holds n2 Still b2)) word → TookPair
    over t j n n2 b b2 key word held held2 may is wrote =
        let one : n ≡ n2 = (let both = sym held ∙ held2 in cc both) in make t j n2 b2 key word held2 may (is ∙ ap (shown.number map) one) wrote

    module _ (takes : TakesPair effects k) (seen_so : Seen (Node K V)) (as_told : (x : At) (before after : ℕ) → seen_so ≡ Wrote x before after → told ≡ changed.Wrote x before after) where
      other : (f : Effect) → effects ≡ f ∷ [] → is_removal f ≡ false → TookPair
      other f are none = absurd (no_removal k effects f are none takes)

      quiet : AllCalm effects → TookPair
      quiet calm = absurd (calm_none k effects calm takes)

      removed_is : (n : ℕ) → effects ≡ effect.Removed n ∷ [] → k ≡ n
      removed_is n are = by takes
        where
          by : TakesPair effects k → k ≡ n
          by (inl is) = (let both = sym is ∙ are in cc both)
          by (inr (x, s, is)) = absurd (let both = sym is ∙ are in cc both)

      replaced_is : (n x : ℕ) (s : Spot) → effects ≡ effect.Replaced n ∷ effect.Stored x s ∷ [] → k ≡ n
      replaced_is n x s are = by takes
        where
          by : TakesPair effects k → k ≡ n
          by (inl is) = absurd (let both = sym is ∙ are in cc both)
          by (inr (y, s2, is)) = (let both = sym is ∙ are in cc both)

      by_move : (move : Move K) → Allowed same (spot_of standing.hash) q move c → Saw move seen_so → By move → TookPair
      by_move (Links len limit) allowed saw (b, own, done) = other _ done.0 refl
      by_move (Stores t key j) allowed saw (j2, b, own, b_is, done) = other _ done.0 refl
      by_move (Replaces t j key) allowed (n2, b2, held2, wrote) (n, borrowed, held, (j2, b, own, b_is, done)) =
          over t j n n2 borrowed b2 key _ held held2 allowed.1 (replaced_is (shown.number map n) _ _ done.0) (as_told _ _ _ wrote)
      by_move (Removes t j) (key, still, may) (n2, b2, held2, wrote) (n, borrowed, held, done) =
          over t j n n2 borrowed b2 key _ held held2 may (removed_is (shown.number map n) done.0) (as_told _ _ _ wrote)
      by_move (Puts j place t key l) allowed saw (n, borrowed, held, few, known_pair, done) = other _ done.0 refl
      by_move (PutsLate t j n) allowed saw (few, known_pair, tables, done) = other _ done.0 refl
      by_move (Promotes t) allowed saw done = other _ done.0 refl
      by_move (Marks j place) allowed saw calm = quiet calm.calm
      by_move (MarksBlocking place) allowed saw calm = quiet calm.calm
      by_move (Skips j t place) allowed saw calm = quiet calm.calm
      by_move (Unmarks j place) allowed saw calm = quiet calm.calm
      by_move (Covers j place) allowed saw calm = quiet calm.calm
      by_move (Claims j t chunk) allowed saw calm = quiet calm.calm
      by_move (Reclaims t claim) allowed saw calm = quiet calm.calm
      by_move (Counts j t many) allowed saw calm = quiet calm.calm
      by_move (GivesUp j t) allowed saw calm = quiet calm.calm
      by_move (Aborts t) allowed saw calm = quiet calm.calm
      by_move (Announces t) allowed saw calm = quiet calm.calm

      by_moved : (moved : Moved same standing.hash setting.mode i standing.chart went.c2) → IsObserved standing.hash setting c seen went.c2 went.blocks2 same i moved seen_so → DidIt moved → TookPair
      by_moved (inl still) saw calm = quiet calm.calm
      by_moved (inr one) saw did = by_move one.0 one.1 saw did

      took_by : ((x : At) (before after : ℕ) → told ≡ changed.Wrote x before after → seen_so ≡ Wrote x before after) → IsObserved standing.hash setting c seen went.c2 went.blocks2 same i went.moved seen_so → TookPair
      took_by as_seen saw =
          by_moved went.moved saw
          (did_moved same (slot_of i) i map (Some (name i)) (shown.number map) standing lawful w sight is_sight is_map m2 (λ w2 c2 blocks2. Unit {0}) went blocks2 grown sights2 m known
          (shown.maps map standing there) shown.blocks told left seen_so as_told as_seen saw)

    pub took_pair : TakesPair effects k → TookPair
    took_pair takes = by made
      where
        by : Operated w.memory m2 told → TookPair
        by (inl (still, nothing)) =
            took_by takes Unseen (λ x before after e. absurd (cc e)) (λ x before after e. absurd (cc (nothing, e)))
            (still_steps_tell V same standing.hash lawful.lawful lawful.fits setting i w standing.chart (seen_by standing.blocks sight) m2 is_map went still)
        by (inr op) =
            took_by takes (seen_of w.memory op.op op.out) (λ x before after e. op.is ∙ told_write x before after op.op op.out (seen_of w.memory op.op op.out) e)
            (λ x before after e. seen_write x before after op.op op.out (seen_of w.memory op.op op.out) (sym op.is ∙ e))
            (operations_tell V same standing.hash lawful.lawful lawful.fits setting i w standing.chart (seen_by standing.blocks sight) m2 is_map went op.op op.out op.can op.took)
