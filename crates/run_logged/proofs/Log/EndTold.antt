-- What a step of the end of a map does: the block that it reclaims ends with the map, and nothing else is done.
use Rattle.std.specs.Prelude.{◌≡◌, ◌<◌, ℕ, Bool, false, List, [], ◌∷◌, ◌++◌, Some, None, ◌⊎◌}
use Rattle.std.proofs.Common.{refl, ap, subst, sym, ◌∙◌, arith, inl, inr}
use Rattle.std.proofs.lemmas.List.{append-nil, append_assoc}
use Rattle.seize.specs.World.{times}
use Rattle.seize.specs.declared.rows.settle.Settled.{Settled}
use Rattle.seize.specs.declared.rows.settle.Settled.TheVariants as settled
use Rattle.papaya_raw.specs.Given.TablesDeclared.node.Node.{Node}
use Rattle.papaya_raw.specs.declared.machines.end_map.EndMap.{EndMap}
use Rattle.run_schedules.specs.declared.effect.Effect.{Effect}
use Rattle.run_schedules.specs.Schedules.Effects.{AtEachEffect}
use Rattle.run_schedules.specs.Schedules.Moment.{Moment}
use Rattle.run_effects.specs.declared.changed.Changed.{Changed}
use Rattle.run_effects.specs.declared.changed.Changed.TheVariants as changed
use Rattle.run_shows.proofs.Given.CallersTogether.At.{at_same}
use Rattle.run_effects.specs.Effects.Effects.{taken_by, effects_of, known_after}
use Rattle.run_effects.specs.Effects.Known.{Known}
use Rattle.run_effects.specs.declared.acting.Acting.TheVariants.{Ending}
use Rattle.run_effects.specs.declared.role.Role.{Role}
use Rattle.run_effects.specs.declared.role.Role.TheVariants as role
use Rattle.run_shows.specs.Given.FinishesEndings.{Finishing, FinishingFacts, StepsOfEnding, waiting_by}
use Rattle.run_shows.specs.Given.FinishesFactsEnds.{back_of, taken_by as taken_of}
use Rattle.run_shows.proofs.Given.FinishesEnds.CountedBlocks.{times-append, next_apart, some_here, some_last}
use Rattle.run_shows.proofs.Given.FinishesEnds.OrdersOn.{back_same}
use Rattle.run_shows.proofs.Given.FinishesEnds.OrdersOnce.{HasOrder, plain_order}
use Rattle.run_shows.specs.Follows.Steps.{TakesNone}
use Rattle.run_shows.proofs.Follows.Alike.{AllCalm, put_elsewhere}
use Rattle.run_shows.specs.Others.Endings.{ObservesNext}
use Rattle.run_shows.proofs.Others.Ends.{tells_next}
use Rattle.run_executor.specs.Given.MomentsEndings.{IsOfIts}
use Rattle.run_executor.proofs.Given.MomentsEnds.{says}
use Rattle.run_executor.specs.Given.MomentsWhole.{RefinesWhole}
use Rattle.run_kept.specs.Ends.{ended_as}
use Rattle.run_logged.specs.Log.Ends.{NotesMap, NotedStill}
use Rattle.run_kept.proofs.Sheds.EndLists.{back_first, IsOneOf, once, one_of}
use Rattle.run_kept.proofs.Sheds.EndTells.{end_tells, nothing_done}
use Rattle.run_shows.specs.Scenes.Ending.{EndingHasOutcome, EndingStepsFrom}
use Rattle.run_shows.specs.Scenes.Held.{Held, IsAt}
use Rattle.run_shows.specs.Scenes.Scene.{Scene, slot_of}
use Rattle.run_shows.proofs.Given.FinishesEnds.Frames.{other_than as not_the_one}

module _ (map : ℕ) where
  -- a pair, a table of the map, or its counter
  abbrev IsOfThis : Role → Type 0
  IsOfThis (role.Pair n) = Unit {0}
  IsOfThis (role.Table t len) = t.map ≡ map
  IsOfThis (role.Counter other) = Unit {0}
  IsOfThis _ = ⊥

  -- a table that ends then is one of it
  ends_its : {K V : Type 0} (m : Moment K V) (r : Role) → IsOfThis r → AtEachEffect (IsOfIts map) None (Some map) (taken_by (Ending map) r) m
  ends_its m role.Free is = absurd is
  ends_its m (role.OwnPair caller) is = absurd is
  ends_its m (role.OwnTable turn shape) is = absurd is
  ends_its m (role.Pair n) is = (tt, tt)
  ends_its m (role.Table t len) is = (is, tt)
  ends_its m (role.Counter other) is = tt

module _ {K V : Type 0} (same : K → K → Bool) (hash : ℕ → K → ℕ) (name : ℕ → List ℕ) (m : Moment K V) (known : Known) (s : Scene K V) (old new : Held K V) (at : IsAt same hash old s) (whole : RefinesWhole same name m known s)
    (i : ℕ) (f : Finishing K V) (here : s.enders i ≡ Some f) (e : EndMap) (said : Settled (Node K V)) (steps : EndingStepsFrom f.machine old new e said)
    (did : StepsOfEnding V same same old.batch_size old.roots slot_of s.world s.maps s.calls s.makers s.enders i f new.memory (e, said))
    (map : ℕ) (not_there : s.maps map ≡ None) (comes : EndingHasOutcome same hash s new i f e did.w2 did.deed said) where
  abbrev told : Changed
  told = new.changed

  abbrev does : Changed → List Effect
  does x = effects_of (Ending map) known x

  abbrev then_known : Changed → Known
  then_known x = known_after (Ending map) x known

  calm_or_took : (AllCalm (does told) × ((then_known told).roles ≡ known.roles)) ⊎ ((b : ℕ) × (told ≡ changed.Took b))
  calm_or_took = says same hash name m known s old new at whole i f here e said steps did map not_there comes

  -- one that takes no block away does nothing
  does_none : TakesNone told → (does told ≡ []) × ((then_known told).roles ≡ known.roles)
  does_none none = elim calm_or_took as (λ _. (does told ≡ []) × ((then_known told).roles ≡ known.roles)) [
    | inl it ↦ (nothing_done map known told (end_tells f.machine old.memory new.memory told (e, said) steps) none it.0, it.1)
    | inr it ↦ absurd (subst TakesNone it.1 none)
  ]

  tells_it : (does told ≡ ended_as map known (taken_of did.deed)) × ((b : ℕ) → times b (taken_of did.deed) ≡ 0 → (then_known told).roles b ≡ known.roles b)
  tells_it = by said comes (tells_next same hash name m known s old new at whole.all.shown i f here e said steps did map not_there said comes)
    where
      none_done : TakesNone told → taken_of did.deed ≡ [] → (does told ≡ ended_as map known (taken_of did.deed))
          × ((b : ℕ) → times b (taken_of did.deed) ≡ 0 → (then_known told).roles b ≡ known.roles b)
      none_done none taken = let it = does_none none in (it.0 ∙ sym (ap (ended_as map known) taken), λ b l. ap (λ (r : ℕ → Role). r b) it.1)

      by : (t : Settled (Node K V)) (c : EndingHasOutcome same hash s new i f e did.w2 did.deed t) → ObservesNext same hash s new i f e did.w2 did.deed t c told → (does told ≡ ended_as map known (taken_of did.deed))
          × ((b : ℕ) → times b (taken_of did.deed) ≡ 0 → (then_known told).roles b ≡ known.roles b)
      by settled.Goes c none = none_done none c.0
      by settled.Waits c none = absurd c
      by (settled.Gave value) c took = (
        ap does took ∙ sym (append-nil (taken_by (Ending map) (known.roles c.0))) ∙ sym (ap (ended_as map known) c.2),
        λ b l. ap (λ (x : Changed). (then_known x).roles b) took ∙ put_elsewhere c.0 role.Free known.roles b (not_the_one b c.0 (sym (ap (times b) c.2) ∙ l)),
      )
      by settled.Done c none = none_done none c.0

  -- a block that it reclaims is the next one of those that it is to reclaim
  module _ (value : Node K V) (c : EndingHasOutcome same hash s new i f e did.w2 did.deed (settled.Gave value)) where
    abbrev f2 : Finishing K V
    f2 = record f { machine = e; back = f.back ++ c.0 ∷ []; waits = f.waits ++ waiting_by did.deed }

    abbrev all : List ℕ
    all = back_of f.setting f.chart f.blocks (λ t. []) false

    k : FinishingFacts same new.batch_size did.w2 i f2
    k = c.3.together.facts i f2 (at_same s.enders i (Some f2) i refl)

    order : HasOrder f.setting f.chart f.blocks (λ t. []) same f.hash f.began
    order = plain_order f.setting f.chart f.blocks same f.hash f.began k.stood.map k.stood.counter

    split : (rest : List ℕ) × (all ≡ f.back ++ c.0 ∷ rest)
    split =
        let it = back_first f.hash f.setting f.chart f.blocks k.lists false i did.w2 e k.past (f.back ++ c.0 ∷ []) e.stands k.facts.point in
        (it.0, back_same f.setting f.chart f.blocks k.lists (λ t. []) false refl ∙ it.1 ∙ append_assoc f.back (c.0 ∷ []) it.0)

    next_new : times c.0 f.back ≡ 0
    next_new = (next_apart c.0 all f.back split.0 (once same f.hash k.lawful f.setting f.chart f.blocks f.began order) split.1).0

    its_kind : IsOneOf same f.hash k.lawful f.setting f.chart f.blocks f.began order c.0
    its_kind =
        one_of same f.hash k.lawful f.setting f.chart f.blocks f.began order c.0
        (subst (λ (l : List ℕ). 0 < times c.0 l) (sym split.1) (some_last c.0 f.back (c.0 ∷ split.0) (some_here c.0 split.0)))

    of_this : (number : ℕ → ℕ) (first : Known) → NotesMap map number first f.setting f.chart f.blocks → IsOfThis map (first.roles c.0)
    of_this number first notes = by its_kind
      where
        by : IsOneOf same f.hash k.lawful f.setting f.chart f.blocks f.began order c.0 → IsOfThis map (first.roles c.0)
        by (inl (n, current, is)) = subst (IsOfThis map) (sym (ap first.roles is ∙ notes.pairs n current)) tt
        by (inr (inl (t, from, made, is))) = subst (IsOfThis map) (sym (ap first.roles is ∙ notes.tables t from made)) refl
        by (inr (inr is)) = subst (IsOfThis map) (sym (ap first.roles is ∙ notes.counter)) tt

  module _ (number : ℕ → ℕ) (first : Known) (notes : NotesMap map number first f.setting f.chart f.blocks) (still : NotedStill first known f.back) where
    abbrev EndsIts : List ℕ → Type 0
    EndsIts taken = AtEachEffect (IsOfIts map) None (Some map) (ended_as map first taken) m

    -- what was noted of it as the end began is what counts
    at_first : (t : Settled (Node K V)) → EndingHasOutcome same hash s new i f e did.w2 did.deed t
        → (ended_as map known (taken_of did.deed) ≡ ended_as map first (taken_of did.deed)) × EndsIts (taken_of did.deed)
    at_first settled.Goes c = (ap (ended_as map known) c.0 ∙ sym (ap (ended_as map first) c.0), subst EndsIts (sym c.0) tt)
    at_first settled.Waits c = absurd c
    at_first (settled.Gave value) c = (
      ap (ended_as map known) c.2 ∙ ap (λ (r : Role). taken_by (Ending map) r ++ []) (still c.0 (next_new value c)) ∙ sym (ap (ended_as map first) c.2),
      subst EndsIts (sym c.2)
          (subst (λ (l : List Effect). AtEachEffect (IsOfIts map) None (Some map) l m) (sym (append-nil (taken_by (Ending map) (first.roles c.0))))
          (ends_its map m (first.roles c.0) (of_this value c number first notes))),
    )
    at_first settled.Done c = (ap (ended_as map known) c.0 ∙ sym (ap (ended_as map first) c.0), subst EndsIts (sym c.0) tt)

    pub did_end : does told ≡ ended_as map first (taken_of did.deed)
    did_end = tells_it.0 ∙ (at_first said comes).0

    pub ends_alone : AtEachEffect (IsOfIts map) None (Some map) (does told) m
    ends_alone = subst (λ (l : List Effect). AtEachEffect (IsOfIts map) None (Some map) l m) (sym did_end) (at_first said comes).1

    pub noted_on : NotedStill first (then_known told) (f.back ++ taken_of did.deed)
    noted_on b none = let both = times-append b f.back (taken_of did.deed) in tells_it.1 b (omega (arith, both, none)) ∙ still b (omega (arith, both, none))
