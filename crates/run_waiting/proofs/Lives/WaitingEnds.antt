-- A step of the end of a map leaves what waits behind tables there: of the blocks of what waits it takes none, and with a table it takes what waits behind that off
-- the list.
use Rattle.std.specs.Prelude.{◌≡◌, ◌⊎◌, ℕ, zero, suc, ◌==◌, ◌<◌, ◌≤◌, Bool, true, false, not, List, [], ◌∷◌, Option, Some, None, IsSome, if◌then◌else◌}
use Rattle.std.proofs.Common.{refl, ap, sym, subst, ◌∙◌, inl, inr, arith}
use Rattle.std.proofs.lemmas.Bool.{eq-eqb}
use Rattle.run_debts.specs.Given.SeizeWordsMem.{value_at}
use Rattle.run_debts.specs.Given.SeizeWorld.{World, Hand, NoBlock, Making, InUse, Parting, Cutting, Handed, LeftTo, IsNotLeft, times}
use Rattle.run_debts.specs.Given.SeizeDeclared.rows.settle.Settled.{Settled}
use Rattle.run_debts.specs.Given.SeizeDeclared.rows.settle.Settled.TheVariants as settled
use Rattle.run_debts.specs.Given.TablesNodes.{deferred_word}
use Rattle.run_debts.specs.Given.TablesDeclared.node.Node.{Node}
use Rattle.run_debts.specs.Given.TablesDeclared.node.Node.TheVariants as node
use Rattle.run_debts.specs.Given.RawDeclared.machines.end_map.EndMap.{EndMap}
use Rattle.run_debts.specs.Given.RunsDeclared.effect.Effect.{Effect}
use Rattle.run_debts.specs.Given.RunsDeclared.effect.Effect.TheVariants.{PairGivenUp, TableGivenUp, Deferred, Reclaimed, Ended, Taken}
use Rattle.run_debts.specs.Given.RunsDeclared.effect.TableId.{TableId}
use Rattle.run_debts.specs.Given.RunsDeclared.effect.Thing.TheVariants.{APair, ATable}
use Rattle.run_debts.specs.Given.SchedulesEffects.{all_at, deferred_by, with_effect, with_effects}
use Rattle.run_debts.specs.Given.SchedulesLists.{is_among}
use Rattle.run_debts.specs.Given.SchedulesMoment.{Place, Behind, Left, GivenBack, Deferral, Moment}
use Rattle.run_debts.specs.Given.SchedulesThings.{same_table}
use Rattle.run_debts.specs.Given.SchedulesViews.{behind}
use Rattle.run_debts.specs.Given.EffectsDeclared.changed.Changed.{Changed}
use Rattle.run_debts.specs.Given.EffectsDeclared.changed.Changed.TheVariants as changed
use Rattle.run_debts.specs.Given.CallersTogether.{CameAbout}
use Rattle.run_debts.specs.Given.EffectsEffects.{taken_by, effects_of, known_after}
use Rattle.run_debts.specs.Given.EffectsKnown.{Known}
use Rattle.run_debts.specs.Given.EffectsDeclared.acting.Acting.TheVariants.{Ending}
use Rattle.run_debts.specs.Given.EffectsDeclared.role.Role.{Role}
use Rattle.run_debts.specs.Given.EffectsDeclared.role.Role.TheVariants as role
use Rattle.run_debts.specs.Given.FinishesEndings.{Finishing, FinishingFacts, StepsOfEnding}
use Rattle.run_debts.specs.Given.FinishesFactsEnds.{taken_by as taken_of, left_by}
use Rattle.run_debts.proofs.Given.FinishesEnds.Frames.{that_one}
use Rattle.run_debts.specs.Given.FollowsBlocks.{HasRole}
use Rattle.run_debts.specs.Given.FollowsSteps.{TakesNone}
use Rattle.run_debts.proofs.Given.FollowsAlike.{is_calm, AllCalm, calm_still, still_all, put_elsewhere}
use Rattle.run_debts.proofs.Given.FollowsOnward.{IsOfMap}
use Rattle.run_debts.specs.Given.OthersEndings.{ending_after, ObservesNext}
use Rattle.run_debts.proofs.Given.OthersEnds.{tells_next}
use Rattle.run_debts.proofs.Given.SpotsUnreclaimed.{same_itself}
use Rattle.run_debts.specs.Given.MomentsWhole.{RefinesWhole}
use Rattle.run_debts.proofs.Given.MomentsEnds.{says, end_keeps}
use Rattle.run_waiting.specs.Lives.Behind.{IsLeft, IsDeferredTo, EachWaits, RefinesWaiting, WaitsOnce}
use Rattle.run_waiting.specs.Lives.Steps.{EndingsPreserveWaiting}
use Rattle.run_waiting.specs.Lives.Waiting.{waits_behind}
use Rattle.run_waiting.proofs.Lives.Each.{each_on, each_both, each_kept}
use Rattle.run_waiting.proofs.Lives.LeftOver.{deed_waits, handed_untaken}
use Rattle.run_waiting.proofs.Lives.Once.{Fewer, once_fewer}
use Rattle.run_waiting.proofs.Lives.Worlds.{Kept, runs_kept, start_kept, has_it}
use Rattle.run_debts.specs.Given.ScenesEnding.{EndingHasOutcome, EndingStepsFrom}
use Rattle.run_debts.specs.Given.ScenesHeld.{Held, IsAt}
use Rattle.run_debts.specs.Given.ScenesScene.{Scene, slot_of}
use Rattle.run_debts.proofs.Given.General.{none_less as none_of}

-- effects that move no pair and no table take nothing off the list
calm_one : (f : Effect) (ds : List Deferral) → is_calm f ≡ true → deferred_by f ds ≡ ds
calm_one (Deferred n t) ds e = absurd (cc e)
calm_one (Reclaimed (ATable t)) ds e = absurd (cc e)
calm_one (Reclaimed (APair n)) ds e = refl
calm_one (Taken t) ds e = absurd (cc e)
calm_one _ ds e = refl

pub calm_deferred : {K V : Type 0} (acted : Option ℕ) (effects : List Effect) (m : Moment K V) → AllCalm effects → (with_effects None acted effects m).deferred ≡ m.deferred
calm_deferred acted [] m all = refl
calm_deferred acted (f ∷ effects) m all = calm_deferred acted effects (with_effect None acted f m) all.1 ∙ calm_one f m.deferred all.0

-- what is left over is left to somebody
left_not : (h : Hand) → IsNotLeft h → IsLeft h → ⊥
left_not NoBlock none left = left
left_not (Making i) none left = left
left_not (InUse o) none left = left
left_not (Parting i) none left = left
left_not (Cutting i) none left = left
left_not Handed none left = left
left_not (LeftTo i) none left = none

module _ {K V : Type 0} (same : K → K → Bool) (hash : ℕ → K → ℕ) (name : ℕ → List ℕ) (m : Moment K V) (known : Known) (s : Scene K V) (old new : Held K V) (at : IsAt same hash old s)
    (whole : RefinesWhole same name m known s) (once : WaitsOnce m.deferred) (waiting : RefinesWaiting m known s.world) (i : ℕ) (f : Finishing K V) (here : s.enders i ≡ Some f) (end : EndMap)
    (said : Settled (Node K V)) (steps : EndingStepsFrom f.machine old new end said)
    (did : StepsOfEnding V same same old.batch_size old.roots slot_of s.world s.maps s.calls s.makers s.enders i f new.memory (end, said))
    (map : ℕ) (not_there : s.maps map ≡ None) (comes : EndingHasOutcome same hash s new i f end did.w2 did.deed said) where
  abbrev w : World (Node K V)
  w = s.world

  abbrev told : Changed
  told = new.changed

  abbrev effects : List Effect
  effects = effects_of (Ending map) known told

  abbrev known2 : Known
  known2 = known_after (Ending map) told known

  abbrev v : Moment K V
  v = with_effects None (Some map) effects m

  kept : Kept deferred_word old.batch_size w
  kept =
      (let came : CameAbout old.batch_size w = at.together.makings.standing.came in
      runs_kept deferred_word old.batch_size came.1 _ w (start_kept deferred_word old.batch_size came.0) came.2)

  facts : FinishingFacts same old.batch_size w i f
  facts = at.together.facts i f here

  abbrev IsTaken : ℕ → Type 0
  IsTaken b = 0 < times b (taken_of did.deed)

  pair_value : (b n : ℕ) → known.roles b ≡ role.Pair n → (k : K) × (x : V) × (value_at w.memory b ≡ Some (node.Pair k x))
  pair_value b n is = (let has = subst (λ (r : Role). HasRole w m.stored b r) is (whole.all.shown.blocks.roles b) in (has.0, has.1, has.3))

  table_value : (b len : ℕ) (t : TableId) → known.roles b ≡ role.Table t len → (limit : ℕ) × (value_at w.memory b ≡ Some (node.Table len limit t.turn))
  table_value b len t is = (let has = subst (λ (r : Role). HasRole w m.stored b r) is (whole.all.shown.blocks.roles b) in (has.0, has.1))

  -- a table of the map that ends is one still
  its_table : (x : ℕ) → times x f.back ≡ 0 → (t : ℕ) → f.chart.first ≤ t → t < f.chart.past → x ≡ f.blocks.table t → value_at w.memory x ≡ Some (node.Table (f.chart.len t) (f.chart.limit t) t)
  its_table x fresh t from made is =
      let since = facts.facts.since.tables t from made (subst (λ (y : ℕ). times y f.back ≡ 0) is fresh) in
      let shows = facts.stood.map.map.shows in
      ap (value_at w.memory) is ∙ since.still.value ∙ (shows.tables t made (shows.linked t from made)).value

  -- the block of what waits is not taken
  pair_untaken : (n : ℕ) (t : TableId) (l : IsDeferredTo known w n t) → IsTaken l.pair → ⊥
  pair_untaken n t l some = by l.waits
    where
      by : (waits_behind l.pair w.log ≡ Some l.table) ⊎ (IsLeft (w.hand l.pair) × IsLeft (w.hand l.table)) → ⊥
      by (inl waits) =
          handed_untaken deferred_word old.batch_size i w did.w2 kept did.deed did.runs l.pair (has_it deferred_word old.batch_size w kept l.pair l.table waits) some
      by (inr both) = elim (did.done_to.takes l.pair some) as (λ _. ⊥) [
        | inl none ↦ left_not (w.hand l.pair) none both.0
        | inr (is, fresh, (u, from, made, e)) ↦
            (let table = its_table l.pair fresh u from made e in let pair = (pair_value l.pair n l.is_pair).2 in cc (table, pair))
      ]

  some_there : (b : ℕ) (value : Node K V) → value_at w.memory b ≡ Some value → IsSome (value_at w.memory b)
  some_there b value is = subst (λ (o : Option (Node K V)). IsSome o) (sym is) refl

  -- a block that is not taken is what it was
  role_there : (b : ℕ) (r : Role) → known.roles b ≡ r → IsOfMap r → IsSome (value_at w.memory b) → (IsTaken b → ⊥) → known2.roles b ≡ r
  role_there b r is of some untaken =
      let stays = did.spares.values b (none_of (times b (taken_of did.deed)) untaken) in
      (end_keeps same hash name m known s old new at whole i f here end said steps did map not_there comes).1 b
      (subst (λ (o : Option (Node K V)). IsSome o) (sym stays) some) (subst IsOfMap (sym is) of) ∙ is

  hand_left : (b : ℕ) → (IsTaken b → ⊥) → IsLeft (w.hand b) → IsLeft (did.w2.hand b)
  hand_left b untaken its = by (times b (left_by did.deed)) refl
    where
      by : (k : ℕ) → times b (left_by did.deed) ≡ k → IsLeft (did.w2.hand b)
      by zero e = subst IsLeft (sym (did.spares.hands b (none_of (times b (taken_of did.deed)) untaken) e)) its
      by (suc k) e = subst IsLeft (sym (did.spares.left b (omega (arith, e)))) tt

  -- where the table's block is not taken, it lies behind it still
  lies_then : (n : ℕ) (t : TableId) (l : IsDeferredTo known w n t) → (IsTaken l.table → ⊥) → IsDeferredTo known2 did.w2 n t
  lies_then n t l free = record {
    pair = l.pair;
    is_pair = role_there l.pair (role.Pair n) l.is_pair tt (some_there l.pair _ (pair_value l.pair n l.is_pair).2) (pair_untaken n t l);
    table = l.table;
    len = l.len;
    is_table = role_there l.table (role.Table t l.len) l.is_table tt (some_there l.table _ (table_value l.table l.len t l.is_table).1) free;
    waits = by l.waits;
  }
    where
      by : (waits_behind l.pair w.log ≡ Some l.table) ⊎ (IsLeft (w.hand l.pair) × IsLeft (w.hand l.table))
          → (waits_behind l.pair did.w2.log ≡ Some l.table) ⊎ (IsLeft (did.w2.hand l.pair) × IsLeft (did.w2.hand l.table))
      by (inl waits) = deed_waits deferred_word old.batch_size i w did.w2 kept did.deed did.runs did.spares.left l.pair l.table waits free
      by (inr both) = inr (hand_left l.pair (pair_untaken n t l) both.0, hand_left l.table free both.1)

  -- each pair waits behind one table still
  end_took : (r : Role) → Fewer m.deferred (with_effects None (Some map) (taken_by (Ending map) r) m).deferred
  end_took role.Free = inl refl
  end_took (role.OwnPair j) = inl refl
  end_took (role.OwnTable turn shape) = inl refl
  end_took (role.Pair k) = inl refl
  end_took (role.Table u len) = inr (u, refl)
  end_took (role.Counter of) = inl refl

  pub once_then : WaitsOnce v.deferred
  once_then = once_fewer m.deferred v.deferred fewer once
    where
      fewer : Fewer m.deferred v.deferred
      fewer = elim (says same hash name m known s old new at whole i f here end said steps did map not_there comes) as (λ _. Fewer m.deferred v.deferred) [
        | inl it ↦ inl (calm_deferred (Some map) effects m it.0)
        | inr it ↦ subst (λ (x : Changed). Fewer m.deferred (with_effects None (Some map) (effects_of (Ending map) known x) m).deferred) (sym it.1) (end_took (known.roles it.0))
      ]

  abbrev Waited : ℕ → TableId → Type 0
  Waited n t = (m.place n ≡ Behind) × IsDeferredTo known w n t

  abbrev WaitsThen : ℕ → TableId → Type 0
  WaitsThen n t = (v.place n ≡ Behind) × IsDeferredTo known2 did.w2 n t

  -- it takes no block
  quiet : taken_of did.deed ≡ [] → TakesNone told → EachWaits WaitsThen v.deferred
  quiet none tells = elim (says same hash name m known s old new at whole i f here end said steps did map not_there comes) as (λ _. EachWaits WaitsThen v.deferred) [
    | inl it ↦
        let alike = still_all None map effects m (calm_still effects it.0) in
        subst (EachWaits WaitsThen) (sym (calm_deferred (Some map) effects m it.0))
        (each_on Waited WaitsThen (λ n t p. (ap (λ (g : ℕ → Place). g n) alike.place ∙ p.0, lies_then n t p.1 (free p.1.table))) m.deferred waiting)
    | inr it ↦ absurd (subst TakesNone it.1 tells)
  ]
    where
      free : (b : ℕ) → IsTaken b → ⊥
      free b some = (let count : times b (taken_of did.deed) ≡ 0 = ap (times b) none in omega (arith, some, count))

  -- it takes one
  module _ (x : ℕ) (is : told ≡ changed.Took x) (taken_is : taken_of did.deed ≡ x ∷ []) where
    others : (b : ℕ) → (b ≡ x → ⊥) → IsTaken b → ⊥
    others b ne some = ne (that_one b x (subst (λ (l : List ℕ). 0 < times b l) taken_is some))

    this_one : (b : ℕ) → b ≡ x → IsTaken b
    this_one b e =
        let one : ◌≡◌ {A = ℕ} (if x == x then 1 else 0) 1 = ap (λ (q : Bool). if q then 1 else 0) (eq-eqb x x refl) in
        let count : times x (taken_of did.deed) ≡ times x (x ∷ []) = ap (times x) taken_is in
        subst IsTaken (sym e) (omega (arith, one, count))

    took_pair : (n : ℕ) (t : TableId) (l : IsDeferredTo known w n t) → l.pair ≡ x → ⊥
    took_pair n t l e = pair_untaken n t l (this_one l.pair e)

    are : (r : Role) → known.roles x ≡ r → effects ≡ taken_by (Ending map) r
    are r e = ap (effects_of (Ending map) known) is ∙ ap (taken_by (Ending map)) e

    abbrev then_at : List Effect → Moment K V
    then_at fs = with_effects None (Some map) fs m

    -- the block of no table
    no_table : (r : Role) → known.roles x ≡ r → ((t : TableId) (len : ℕ) → r ≡ role.Table t len → ⊥) → (n : ℕ) (t : TableId) (l : IsDeferredTo known w n t) → l.table ≡ x → ⊥
    no_table r e never n t l z = never t l.len (sym e ∙ ap known.roles (sym z) ∙ l.is_table)

    all_wait : (fs : List Effect) → effects ≡ fs → (then_at fs).deferred ≡ m.deferred → ((n : ℕ) (t : TableId) → IsDeferredTo known w n t → m.place n ≡ Behind → (then_at fs).place n ≡ Behind)
        → ((n : ℕ) (t : TableId) (l : IsDeferredTo known w n t) → l.table ≡ x → ⊥) → EachWaits WaitsThen v.deferred
    all_wait fs they deferred place apart =
        subst (EachWaits WaitsThen) (sym (ap (λ (gs : List Effect). (then_at gs).deferred) they ∙ deferred))
        (each_on Waited WaitsThen
        (λ n t p. (ap (λ (gs : List Effect). (then_at gs).place n) they ∙ place n t p.1 p.0, lies_then n t p.1 (others p.1.table (apart n t p.1)))) m.deferred waiting)

    -- that of a table
    took_a_table : (u : TableId) (len : ℕ) → known.roles x ≡ role.Table u len → EachWaits WaitsThen v.deferred
    took_a_table u len e =
        subst (EachWaits WaitsThen) (sym (ap (λ (gs : List Effect). (then_at gs).deferred) (are (role.Table u len) e)))
        (each_kept (λ n t. Waited n t × Alone n t) WaitsThen (λ d. not (same_table d.behind u)) (λ d other p. kept_one d.pair d.behind other p.0 p.1) m.deferred
        (each_both Waited Alone m.deferred waiting once))
      where
        -- it waits behind one table alone
        Alone : ℕ → TableId → Type 0
        Alone n t = (y : TableId) → is_among n (behind y m.deferred) ≡ true → same_table t y ≡ true

        -- the table of what stays is another one
        apart : (n : ℕ) (t : TableId) → not (same_table t u) ≡ true → (l : IsDeferredTo known w n t) → l.table ≡ x → ⊥
        apart n t other l z =
            let one : role.Table t l.len ≡ role.Table u len = sym l.is_table ∙ ap known.roles z ∙ e in
            let t_is : t ≡ u = cc one in
            let yes : same_table t u ≡ true = ap (λ (y : TableId). same_table y u) t_is ∙ same_itself u in
            let none = ap not yes in
            cc (other, none)

        place_kept : (n : ℕ) (t : TableId) → not (same_table t u) ≡ true → Alone n t → m.place n ≡ Behind → all_at Left (behind u m.deferred) m.place n ≡ Behind
        place_kept n t other alone was = by (is_among n (behind u m.deferred)) refl
          where
            by : (q : Bool) → is_among n (behind u m.deferred) ≡ q → (if q then Left else m.place n) ≡ Behind
            by true among = absurd (let none = ap not (alone u among) in cc (other, none))
            by false among = was

        kept_one : (n : ℕ) (t : TableId) → not (same_table t u) ≡ true → Waited n t → Alone n t → WaitsThen n t
        kept_one n t other p alone = (
          ap (λ (gs : List Effect). (then_at gs).place n) (are (role.Table u len) e) ∙ place_kept n t other alone p.0,
          lies_then n t p.1 (others p.1.table (apart n t other p.1)),
        )

    took : (r : Role) → known.roles x ≡ r → EachWaits WaitsThen v.deferred
    took role.Free e = all_wait [] (are role.Free e) refl (λ n t l p. p) (no_table role.Free e (λ t len z. cc z))
    took (role.OwnPair j) e = all_wait (PairGivenUp ∷ []) (are (role.OwnPair j) e) refl (λ n t l p. p) (no_table (role.OwnPair j) e (λ t len z. cc z))
    took (role.OwnTable turn shape) e =
        all_wait (TableGivenUp (record { map = map; turn = turn }) ∷ []) (are (role.OwnTable turn shape) e) refl (λ n t l p. p) (no_table (role.OwnTable turn shape) e (λ t len z. cc z))
    took (role.Counter of) e = all_wait [] (are (role.Counter of) e) refl (λ n t l p. p) (no_table (role.Counter of) e (λ t len z. cc z))
    took (role.Pair k) e =
        all_wait (Ended k ∷ []) (are (role.Pair k) e) refl
        (λ n t l p. put_elsewhere k GivenBack m.place n (λ z. took_pair n t l (whole.all.shown.blocks.once l.pair x n l.is_pair (e ∙ ap role.Pair (sym z)))) ∙ p)
        (no_table (role.Pair k) e (λ t len z. cc z))
    took (role.Table u len) e = took_a_table u len e

  -- by what it says
  then_waits : (x : Settled (Node K V)) (it : EndingHasOutcome same hash s new i f end did.w2 did.deed x) → ObservesNext same hash s new i f end did.w2 did.deed x it told
      → RefinesWaiting v known2 (ending_after same hash s new i f end did.w2 did.deed x it).world
  then_waits settled.Goes it tells = quiet it.0 tells
  then_waits settled.Waits it tells = absurd it
  then_waits (settled.Gave value) it tells = took it.0 tells it.2 (known.roles it.0) refl
  then_waits settled.Done it tells = quiet it.0 tells

pub endings_keep_waiting : (K V : Type 0) (same : K → K → Bool) (hash : ℕ → K → ℕ) → EndingsPreserveWaiting K V same hash
endings_keep_waiting K V same hash name m known s old new at whole once waiting i told leads f here map not_there =
    let to = leads f here in
    then_waits same hash name m known s old new at whole once waiting i f here to.0 told to.1 to.2 map not_there to.3 told to.3
    (tells_next same hash name m known s old new at whole.all.shown i f here to.0 told to.1 to.2 map not_there told to.3)
