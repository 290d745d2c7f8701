-- A step of the end of a map: the moment after its effects shows the scene after it.
use Rattle.std.specs.Prelude.{◌&&◌, ◌≡◌, ◌≢◌, ℕ, zero, suc, ◌<◌, ◌≤◌, nat_lt, Bool, true, false, List, [], ◌∷◌, ◌++◌, Option, Some, None, if◌then◌else◌, ◌⊎◌, ◌==◌, IsSome}
use Rattle.std.proofs.Common.{refl, ap, sym, subst, ◌∙◌, arith, inl, inr}
use Rattle.std.proofs.lemmas.Bool.{eq-eqb, cases_eq}
use Rattle.seize_words.specs.declared.at.At.TheVariants.{Root, Used, Slot, Entry, Word}
use Rattle.seize_words.specs.OneMemory.Mem.{Mem, value_at, word_at}
use Rattle.seize_words.specs.OneMemory.Word.{block_in}
use Rattle.seize.specs.World.{World, Hand, times, with_at}
use Rattle.seize.specs.declared.rows.settle.Settled.{Settled}
use Rattle.seize.specs.declared.rows.settle.Settled.TheVariants as settled
use Rattle.run_effects.specs.Given.TablesDeclared.node.Node.{Node}
use Rattle.run_effects.specs.Given.RawEndMap.{end_map_plan}
use Rattle.run_effects.specs.Given.RawDeclared.machines.end_map.EndMap.{EndMap}
use Rattle.run_effects.specs.Given.RawDeclared.machines.end_map.Ending.{Ending}
use Rattle.run_effects.specs.Given.RawDeclared.machines.end_map.Ending.TheVariants as ending
use Rattle.run_effects.specs.Given.RunsDeclared.effect.Effect.{Effect}
use Rattle.run_effects.specs.Given.RunsDeclared.effect.Effect.TheVariants.{Asked, PairGivenUp, TableGivenUp, Ended, Taken}
use Rattle.run_effects.specs.Given.RunsDeclared.effect.Growth.TheVariants.{ABlock}
use Rattle.run_effects.specs.Given.RunsDeclared.effect.TableId.{TableId}
use Rattle.run_effects.specs.Given.SchedulesEffects.{with_effects, AtEachEffect}
use Rattle.run_effects.specs.Given.SchedulesMoment.{Left, IsTaken, Moment}
use Rattle.run_effects.specs.Given.SchedulesThings.{same_table}
use Rattle.run_effects.specs.declared.changed.Changed.{Changed}
use Rattle.run_effects.specs.declared.changed.Changed.TheVariants as changed
use Rattle.run_effects.specs.Given.RuleInWorld.{IsMapIn}
use Rattle.run_effects.specs.Given.RuleWords.{root_word}
use Rattle.many_maps.proofs.Given.CallersTogether.At.{at_same}
use Rattle.many_maps.specs.Endings.{Finishing, FinishingFacts, StepsOfEnding, waiting_by}
use Rattle.many_maps.specs.FactsEnds.{taken_by as taken_of, left_by, EndingFacts}
use Rattle.many_maps.specs.Maps.{Standing}
use Rattle.run_effects.specs.Effects.Effects.{names_same, named, written_by, written_on, led_to, linked_on, taken_by, effects_of, known_after}
use Rattle.run_effects.specs.Effects.Known.{Known, with_role}
use Rattle.run_effects.specs.declared.acting.Acting.{Acting}
use Rattle.run_effects.specs.declared.acting.Acting.TheVariants as acts
use Rattle.run_effects.specs.declared.role.Role.{Role}
use Rattle.run_effects.specs.declared.role.Role.TheVariants as role
use Rattle.run_shows.specs.Follows.Blocks.{WasLinked, HasRole}
use Rattle.run_shows.specs.Follows.Calls.{RefinesCalls}
use Rattle.run_shows.specs.Follows.Maps.{table_of}
use Rattle.run_shows.specs.Follows.Shows.{Refines}
use Rattle.run_shows.specs.Follows.Steps.{TakesNone}
use Rattle.run_shows.proofs.Follows.Alike.{AllStill, AllCalm}
use Rattle.run_shows.proofs.Follows.Operations.{StaysThere, LeavesBy, operated, operated_leaves}
use Rattle.run_shows.proofs.Follows.Quiet.{same_name, DoneStill as DoesNothing}
use Rattle.run_shows.proofs.Follows.Told.{roomed_as_many}
use Rattle.run_shows.proofs.Follows.Writes.{nothing_free}
use Rattle.run_shows.specs.Others.After.{RefinesAfter}
use Rattle.run_shows.specs.Others.Endings.{ending_after, ObservesNext, EndingsAreShown}
use Rattle.run_shows.specs.Others.Gone.{EndsWith}
use Rattle.run_shows.proofs.Others.EndWords.{NamesPair, root_leads, root_or_none, root_waits, frees_no_root}
use Rattle.run_shows.proofs.Others.Leads.{same_parts, roomed_still, either_still, word_says, calls_then, quiet, nothing, gone_quiet, either_calm, roomed_calm}
use Rattle.run_shows.proofs.Others.Scenes.{pair_gone, table_gone}
use Rattle.run_shows.proofs.Others.Stays.{StaysBlock, same_there, same_maps}
use Rattle.run_shows.proofs.Scenes.May.{may_end}
use Rattle.run_shows.specs.Scenes.Ending.{EndingHasOutcome, EndingStepsFrom, ending_goes}
use Rattle.run_shows.specs.Scenes.Held.{Held, IsAt}
use Rattle.run_shows.specs.Scenes.Scene.{Scene, slot_of}

-- a pair, or no block, has the role of no table
abbrev IsNoTable : Role → Type 0
IsNoTable (role.OwnTable turn shape) = ⊥
IsNoTable (role.Table t len) = ⊥
IsNoTable _ = Unit {0}

-- the root of a map that ends names no table
root_says : (its : Acting) (known : Known) (b : ℕ) (q : Bool) (was is : Role) → IsNoTable is → DoesNothing known (if q then [] else led_to its was is) (if q then known else linked_on its b is known)
root_says its known b true was is none = (tt, refl)
root_says its known b false was role.Free none = (tt, refl)
root_says its known b false was (role.OwnPair caller) none = (tt, refl)
root_says its known b false was (role.OwnTable turn shape) none = absurd none
root_says its known b false was (role.Pair n) none = (tt, refl)
root_says its known b false was (role.Table t len) none = absurd none
root_says its known b false was (role.Counter map) none = (tt, refl)

-- a word that names what it named says nothing
same_root_says : (its : Acting) (known : Known) (b : ℕ) (q : Bool) (was is : Role) → q ≡ true → DoesNothing known (if q then [] else led_to its was is) (if q then known else linked_on its b is known)
same_root_says its known b true was is e = (tt, refl)
same_root_says its known b false was is e = absurd (cc e)

module _ {K V : Type 0} (same : K → K → Bool) (hash : ℕ → K → ℕ) (name : ℕ → List ℕ) (m : Moment K V) (known : Known) (s : Scene K V) (old new : Held K V) (at : IsAt same hash old s)
    (shown : Refines same name m known s) (i : ℕ) (f : Finishing K V) (here : s.enders i ≡ Some f) (end : EndMap) (said : Settled (Node K V)) (steps : EndingStepsFrom f.machine old new end said)
    (did : StepsOfEnding V same same old.batch_size old.roots slot_of s.world s.maps s.calls s.makers s.enders i f new.memory (end, said))
    (map : ℕ) (not_there : s.maps map ≡ None) where
  abbrev w : World (Node K V)
  w = s.world

  abbrev w2 : World (Node K V)
  w2 = did.w2

  abbrev told : Changed
  told = new.changed

  abbrev its : Acting
  its = acts.Ending map

  pub left : LeavesBy w.memory w2.memory told
  left =
      let may = may_end same hash old s at i f here in
      subst (λ (n : Mem (Node K V)). LeavesBy w.memory n told) (sym did.memory)
      (subst (λ (n : Mem (Node K V)). LeavesBy n new.memory told) (sym at.memory)
      (operated_leaves old.memory new.memory told (operated old.memory new.memory told (end_map_plan f.machine) (end, said) may steps)))

  facts : FinishingFacts same old.batch_size w i f
  facts = at.together.facts i f here

  stood : (n : ℕ) (before : Standing K) → s.maps n ≡ Some before → IsMapIn same before.hash before.setting w before.chart before.blocks
  stood n before e = (at.together.makings.standing.each n before e).ground.map

  -- a block that is there still, if it was, is as it was
  linked_then : (b : ℕ) → times b (taken_of did.deed) ≡ 0 → WasLinked (w.hand b) → WasLinked (w2.hand b)
  linked_then b kept linked = by (times b (left_by did.deed)) refl
    where
      by : (n : ℕ) → times b (left_by did.deed) ≡ n → WasLinked (w2.hand b)
      by zero e = subst (λ (h : Hand). WasLinked h) (sym (did.spares.hands b kept e)) linked
      by (suc n) e = subst (λ (h : Hand). WasLinked h) (sym (did.spares.left b (omega (arith, e)))) tt

  stays : (b : ℕ) → StaysThere w.memory w2.memory b → StaysBlock w w2 b
  stays b there = by (times b (taken_of did.deed)) refl
    where
      by : (n : ℕ) → times b (taken_of did.deed) ≡ n → StaysBlock w w2 b
      by zero e = record { value = did.spares.values b e; linked = λ value is linked. linked_then b e linked }
      by (suc n) e = none (value_at w.memory b) refl
        where
          gone : value_at w2.memory b ≡ None
          gone = did.spares.gone b (omega (arith, e))

          none : (o : Option (Node K V)) → value_at w.memory b ≡ o → StaysBlock w w2 b
          none None f = record { value = gone ∙ sym f; linked = λ value is linked. absurd (cc (f, is)) }
          none (Some value) f = absurd (let now = (there.there value f).1 in cc (gone, now))

  -- the words of a block that is there are as they were
  word_stays : (b field old_word new_word : ℕ) (value : Node K V) → value_at w2.memory b ≡ Some value → word_at w.memory (Word b field) ≡ Some old_word → word_at w2.memory (Word b field) ≡ Some new_word
      → names_same old_word new_word ≡ true
  word_stays b field old_word new_word value there was is = by (times b (taken_of did.deed)) refl
    where
      by : (n : ℕ) → times b (taken_of did.deed) ≡ n → names_same old_word new_word ≡ true
      by zero e = same_name old_word new_word (let now = did.spares.words b field e in cc (now, was, is))
      by (suc n) e = absurd (let gone = did.spares.gone b (omega (arith, e)) in cc (gone, there))

  -- what its root names after it is what it named, or a pair
  names_on : (back waits : List ℕ) → IsAt same hash new (record s { world = w2; enders = with_at s.enders i (Some (record f { machine = end; back = back; waits = waits })) })
      → (word : ℕ) → word_at w2.memory (Root f.setting.root) ≡ Some word → (word_at w2.memory (Root f.setting.root) ≡ Some (root_word f.hash f.chart f.blocks)) ⊎ NamesPair w word
  names_on back waits there word is =
      elim (root_or_none f.hash f.setting f.chart f.blocks w2.memory end.stands k.facts.root not_over)
      as (λ _. (word_at w2.memory (Root f.setting.root) ≡ Some (root_word f.hash f.chart f.blocks)) ⊎ NamesPair w word) [
        | inl leads ↦ inl leads
        | inr none ↦ inr (inl (let zero_is : word ≡ 0 = cc (is, none) in ap block_in zero_is))
      ]
    where
      k : FinishingFacts same new.batch_size w2 i (record f { machine = end; back = back; waits = waits })
      k = there.together.facts i (record f { machine = end; back = back; waits = waits }) (at_same s.enders i (Some (record f { machine = end; back = back; waits = waits })) i refl)

      not_over : end.stands ≡ ending.Over → ⊥
      not_over over = subst (λ (p : Ending). EndingFacts f.setting f.chart f.blocks k.lists false i f.hash w2 end k.past back p) over k.facts.point

  names_then : (t : Settled (Node K V)) → EndingHasOutcome same hash s new i f end w2 did.deed t → (word : ℕ) → word_at w2.memory (Root f.setting.root) ≡ Some word
      → (word_at w2.memory (Root f.setting.root) ≡ Some (root_word f.hash f.chart f.blocks)) ⊎ NamesPair w word
  names_then settled.Goes comes word is = names_on f.back (f.waits ++ waiting_by did.deed) comes.1 word is
  names_then settled.Waits comes word is = absurd comes
  names_then (settled.Gave value) comes word is = names_on (f.back ++ comes.0 ∷ []) (f.waits ++ waiting_by did.deed) comes.3 word is
  names_then settled.Done comes word is = inr (root_waits f.setting w w2.memory word is f.waits facts.waiting comes.1.root)

  no_table : (word : ℕ) → NamesPair w word → IsNoTable (known.roles (block_in word))
  no_table word (inl zero_is) = subst IsNoTable (sym (ap known.roles zero_is ∙ nothing_free w m.stored known shown.blocks.roles)) tt
  no_table word (inr pair) = by (known.roles (block_in word)) (shown.blocks.roles (block_in word))
    where
      by : (r : Role) → HasRole w m.stored (block_in word) r → IsNoTable r
      by role.Free has = tt
      by (role.OwnPair caller) has = tt
      by (role.OwnTable turn shape) has = absurd (let there = has.1 in let is = pair.2 in cc (there, is))
      by (role.Pair n) has = tt
      by (role.Table t len) has = absurd (let there = has.1 in let is = pair.2 in cc (there, is))
      by (role.Counter of) has = tt

  not_made : (b : ℕ) (value : Node K V) → value_at w.memory b ≡ None → value_at w2.memory b ≡ Some value → ⊥
  not_made b value none some = by (times b (taken_of did.deed)) refl
    where
      by : (n : ℕ) → times b (taken_of did.deed) ≡ n → ⊥
      by zero e = (let kept = did.spares.values b e in cc (kept, none, some))
      by (suc n) e = (let gone = did.spares.gone b (omega (arith, e)) in cc (gone, some))

  table_words : (b field before after : ℕ) → word_at w.memory (Word b field) ≡ Some before → word_at w2.memory (Word b field) ≡ Some after → ((x : ℕ) → value_at w2.memory x ≡ value_at w.memory x)
      → (t : TableId) (len : ℕ) → known.roles b ≡ role.Table t len → names_same before after ≡ true
  table_words b field before after was now values t len e =
      let has : HasRole w m.stored b (role.Table t len) = subst (λ (r : Role). HasRole w m.stored b r) e (shown.blocks.roles b) in
      word_stays b field before after _ (values b ∙ has.1) was now

  module _ (comes : EndingHasOutcome same hash s new i f end w2 did.deed said) where
    root_quiet : (r before after : ℕ) → told ≡ changed.Wrote (Root r) before after → word_at w.memory (Root r) ≡ Some before → word_at w2.memory (Root r) ≡ Some after
        → DoesNothing known (written_by its known (Root r) before after) (written_on its (Root r) before after known)
    root_quiet r before after is was now = elim (cases_eq r f.setting.root) as (λ _. Does) [
      | inl e ↦ own (names_then said comes after (subst (λ (x : ℕ). word_at w2.memory (Root x) ≡ Some after) e now)) (subst (λ (x : ℕ). word_at w.memory (Root x) ≡ Some before) e was)
          (subst (λ (x : ℕ). word_at w2.memory (Root x) ≡ Some after) e now)
      | inr ne ↦ same_so (let kept = (did.spares.roots r ne).0 in cc (kept, was, now))
    ]
      where
        Does : Type 0
        Does = DoesNothing known (written_by its known (Root r) before after) (written_on its (Root r) before after known)

        same_so : after ≡ before → Does
        same_so e = same_root_says its known (block_in after) (names_same before after) (named known before) (named known after) (same_name before after e)

        own : (word_at w2.memory (Root f.setting.root) ≡ Some (root_word f.hash f.chart f.blocks)) ⊎ NamesPair w after → word_at w.memory (Root f.setting.root) ≡ Some before
            → word_at w2.memory (Root f.setting.root) ≡ Some after → Does
        own (inr names) before_is after_is = root_says its known (block_in after) (names_same before after) (named known before) (named known after) (no_table after names)
        own (inl leads) before_is after_is =
            same_so (
            let led = root_leads f.hash f.setting f.chart f.blocks w.memory f.machine.stands facts.facts.root
            (λ frees. frees_no_root f.machine old.memory new.memory told (end, said) steps frees r before after is)
            (λ over. subst (λ (p : Ending). EndingFacts f.setting f.chart f.blocks facts.lists false i f.hash w f.machine facts.past f.back p) over facts.facts.point) in
            cc (led, leads, before_is, after_is)
            )

    -- it takes a block away, or does nothing to pairs and tables, by which as much is known of blocks
    pub says_or_takes : (x : Changed) → told ≡ x → LeavesBy w.memory w2.memory x
        → (AllCalm (effects_of its known x) × ((known_after its x known).roles ≡ known.roles)) ⊎ ((b : ℕ) × (x ≡ changed.Took b))
    says_or_takes changed.Nothing is l = inl (tt, refl)
    says_or_takes (changed.Wrote (Root r) before after) is l = let does = root_quiet r before after is l.0 l.1 in inl (does.0, ap (λ (k : Known). k.roles) does.1)
    says_or_takes (changed.Wrote (Used r) before after) is l = inl (tt, refl)
    says_or_takes (changed.Wrote (Slot t field) before after) is l = inl (tt, refl)
    says_or_takes (changed.Wrote (Entry b field) before after) is l = inl (either_calm (names_same before after), refl)
    says_or_takes (changed.Wrote (Word b field) before after) is l =
        let does = word_says its known field (block_in after) (known.roles b) (names_same before after) (named known before) (named known after) (table_words b field before after l.0 l.1 l.2) in
        inl (does.0, ap (λ (k : Known). k.roles) does.1)
    says_or_takes (changed.Made kind b) is l = absurd (not_made b l.1 l.0 l.3)
    says_or_takes (changed.Unmade kind) is l = inl ((refl, tt), refl)
    says_or_takes (changed.Took b) is l = inr (b, refl)
    says_or_takes (changed.Roomed bucket had) is l = inl (roomed_calm (had && nat_lt bucket known.buckets), (roomed_as_many its known bucket had).0)

    -- the scene after it
    module _ (rest : Scene K V) (calls : RefinesCalls same name m rest.calls) (stand : (n : ℕ) (st : Standing K) → s.maps n ≡ Some st → IsMapIn same st.hash st.setting w2 st.chart st.blocks) where
      abbrev Goal : List Effect → Known → Type 0
      Goal effects after = RefinesAfter same name m known s shown (with_effects None (Some map) effects m) after (record rest { world = w2; maps = s.maps })

      still : (effects : List Effect) (after : Known) → AllStill effects → after.roles ≡ known.roles → after.stored ≡ known.stored → ((b : ℕ) → StaysThere w.memory w2.memory b) → Goal effects after
      still effects after none roles as_many there = quiet same name m known s shown w2 s.maps (λ n. same_maps (s.maps n)) (Some map) rest calls effects after none roles as_many (λ b. stays b (there b))

      nothing_done : (effects : List Effect) (after : Known) → DoesNothing known effects after → ((b : ℕ) → StaysThere w.memory w2.memory b) → Goal effects after
      nothing_done effects after does there = nothing same name m known s shown w2 s.maps (λ n. same_maps (s.maps n)) (Some map) rest calls effects after does (λ b. stays b (there b))

      -- a block was taken away
      module _ (b : ℕ) (gone : value_at w2.memory b ≡ None) (there : (x : ℕ) → x ≢ b → StaysThere w.memory w2.memory x) where
        abbrev free : Known
        free = with_role b role.Free known

        others : (x : ℕ) → x ≢ b → StaysBlock w w2 x
        others x ne = stays x (there x ne)

        calls_on : (effects : List Effect) → RefinesCalls same name (with_effects None (Some map) effects m) rest.calls
        calls_on = calls_then same name m known s shown w2 s.maps (λ n. same_maps (s.maps n)) (Some map) rest calls

        none_moved : (effects : List Effect) → AllStill effects → Goal effects free
        none_moved effects none = gone_quiet same name m known s shown w2 s.maps (λ n. same_maps (s.maps n)) (Some map) rest calls stood stand effects none b gone others

        apart : (t : TableId) → t.map ≡ map → (n : ℕ) (before : Standing K) → s.maps n ≡ Some before → (u : ℕ) → before.chart.first ≤ u → u < before.chart.past → same_table (table_of n u) t ≡ false
        apart t of n before e u from made = by (same_table (table_of n u) t) refl
          where
            by : (q : Bool) → same_table (table_of n u) t ≡ q → same_table (table_of n u) t ≡ false
            by false g = g
            by true g = absurd (let is = (same_parts (table_of n u) t g).0 in let none = ap s.maps (is ∙ of) ∙ not_there in cc (none, e))

        taken : (r : Role) → known.roles b ≡ r → AtEachEffect (λ v effect. EndsWith v map effect) None (Some map) (taken_by its r) m → Goal (taken_by its r) free
        taken role.Free e may = none_moved [] tt
        taken (role.OwnPair caller) e may = none_moved (PairGivenUp ∷ []) (refl, tt)
        taken (role.OwnTable turn shape) e may = none_moved (TableGivenUp (record { map = map; turn = turn }) ∷ []) (refl, tt)
        taken (role.Counter of) e may = none_moved [] tt
        taken (role.Pair k) e may =
            pair_gone same name m known s shown w2 s.maps (λ n. same_maps (s.maps n)) stood stand b gone others free refl refl rest (with_effects None (Some map) (Ended k ∷ []) m) refl
            (calls_on (Ended k ∷ [])) k e refl refl refl refl
        taken (role.Table t len) e may =
            table_gone same name m known s shown w2 s.maps (λ n. same_maps (s.maps n)) stood stand b gone others free refl refl rest (with_effects None (Some map) (Taken t ∷ []) m) refl
            (calls_on (Taken t ∷ [])) IsTaken t Left (apart t may.0.0) may.0.1 (λ n. refl) refl refl refl refl

      leads : (x : Changed) → told ≡ x → LeavesBy w.memory w2.memory x → AtEachEffect (λ v effect. EndsWith v map effect) None (Some map) (effects_of its known x) m → Goal (effects_of its known x) (known_after its x known)
      leads changed.Nothing is l may = still [] known tt refl refl l
      leads (changed.Wrote (Root r) before after) is l may = nothing_done _ _ (root_quiet r before after is l.0 l.1) (same_there w.memory w2.memory l.2)
      leads (changed.Wrote (Used r) before after) is l may = still [] known tt refl refl (same_there w.memory w2.memory l.2)
      leads (changed.Wrote (Slot t field) before after) is l may = still [] known tt refl refl (same_there w.memory w2.memory l.2)
      leads (changed.Wrote (Entry b field) before after) is l may = still _ known (either_still (names_same before after)) refl refl (same_there w.memory w2.memory l.2)
      leads (changed.Wrote (Word b field) before after) is l may =
          nothing_done _ _ (word_says its known field (block_in after) (known.roles b) (names_same before after) (named known before) (named known after)
          (table_words b field before after l.0 l.1 l.2)) (same_there w.memory w2.memory l.2)
      leads (changed.Made kind b) is l may = absurd (not_made b l.1 l.0 l.3)
      leads (changed.Unmade kind) is l may = still (Asked ABlock ∷ []) known (refl, tt) refl refl l
      leads (changed.Took b) is l may = taken b l.1 l.2 (known.roles b) refl may
      leads (changed.Roomed bucket had) is l may =
          let alike = roomed_as_many its known bucket had in still (effects_of its known (changed.Roomed bucket had)) _ (roomed_still (had && nat_lt bucket known.buckets)) alike.0 alike.1 l

  -- so it is by what it says
  ending_shown : (t : Settled (Node K V)) → said ≡ t → (comes : EndingHasOutcome same hash s new i f end w2 did.deed t)
      → AtEachEffect (λ v effect. EndsWith v map effect) None (Some map) (effects_of its known told) m
      → RefinesAfter same name m known s shown (with_effects None (Some map) (effects_of its known told) m) (known_after its told known) (ending_after same hash s new i f end w2 did.deed t comes)
  ending_shown settled.Goes e comes may =
      leads (subst (λ (x : Settled (Node K V)). EndingHasOutcome same hash s new i f end w2 did.deed x) (sym e) comes) (ending_goes s i f end w2 did.deed f.back) shown.calls
      (λ n st is. (comes.1.together.makings.standing.each n st is).ground.map) told refl left may
  ending_shown settled.Waits e comes may = absurd comes
  ending_shown (settled.Gave value) e comes may =
      leads (subst (λ (x : Settled (Node K V)). EndingHasOutcome same hash s new i f end w2 did.deed x) (sym e) comes) (ending_goes s i f end w2 did.deed (f.back ++ comes.0 ∷ [])) shown.calls
      (λ n st is. (comes.3.together.makings.standing.each n st is).ground.map) told refl left may
  ending_shown settled.Done e comes may =
      leads (subst (λ (x : Settled (Node K V)). EndingHasOutcome same hash s new i f end w2 did.deed x) (sym e) comes) (record s { world = w2; enders = with_at s.enders i None }) shown.calls
      (λ n st is. (comes.2.together.makings.standing.each n st is).ground.map) told refl left may

  -- what is told is what was taken
  none_taken : (x : Changed) → LeavesBy w.memory w2.memory x → taken_of did.deed ≡ [] → TakesNone x
  none_taken changed.Nothing l none = tt
  none_taken (changed.Wrote a before after) l none = tt
  none_taken (changed.Made kind b) l none = tt
  none_taken (changed.Unmade kind) l none = tt
  none_taken (changed.Took b) l none =
      let kept = did.spares.values b (ap (times b) none) in
      let some : IsSome {T = Node K V} None = subst (λ (o : Option (Node K V)). IsSome o) (sym kept ∙ l.1) l.0 in cc some
  none_taken (changed.Roomed bucket had) l none = tt

  pub one_taken : (x : Changed) → LeavesBy w.memory w2.memory x → (b : ℕ) (value : Node K V) → value_at w.memory b ≡ Some value → value_at w2.memory b ≡ None → x ≡ changed.Took b
  one_taken changed.Nothing l b value is gone = absurd (let there = ((l b).there value is).1 in cc (there, gone))
  one_taken (changed.Wrote a before after) l b value is gone = absurd (let kept = l.2 b in cc (kept, is, gone))
  one_taken (changed.Made kind x) l b value is gone = elim (cases_eq b x) as (λ _. changed.Made kind x ≡ changed.Took b) [
    | inl e ↦ absurd (let none = ap (value_at w.memory) e ∙ l.0 in cc (none, is))
    | inr ne ↦ absurd (let there = ((l.4 b ne).there value is).1 in cc (there, gone))
  ]
  one_taken (changed.Unmade kind) l b value is gone = absurd (let there = ((l b).there value is).1 in cc (there, gone))
  one_taken (changed.Took x) l b value is gone = elim (cases_eq b x) as (λ _. changed.Took x ≡ changed.Took b) [
    | inl e ↦ ap changed.Took (sym e)
    | inr ne ↦ absurd (let there = ((l.2 b ne).there value is).1 in cc (there, gone))
  ]
  one_taken (changed.Roomed bucket had) l b value is gone = absurd (let there = ((l b).there value is).1 in cc (there, gone))

  -- the one that is reclaimed next
  next_gone : (b : ℕ) → taken_of did.deed ≡ b ∷ [] → value_at w2.memory b ≡ None
  next_gone b is =
      let one : ◌≡◌ {A = ℕ} (if b == b then 1 else 0) 1 = ap (λ (q : Bool). if q then 1 else 0) (eq-eqb b b refl) in
      let count : times b (taken_of did.deed) ≡ times b (b ∷ []) = ap (times b) is in
      did.spares.gone b (omega (arith, one, count))

  pub tells_next : (t : Settled (Node K V)) (comes : EndingHasOutcome same hash s new i f end w2 did.deed t) → ObservesNext same hash s new i f end w2 did.deed t comes told
  tells_next settled.Goes comes = none_taken told left comes.0
  tells_next settled.Waits comes = comes
  tells_next (settled.Gave value) comes = one_taken told left comes.0 value comes.1 (next_gone comes.0 comes.2)
  tells_next settled.Done comes = none_taken told left comes.0

module _ (K V : Type 0) (same : K → K → Bool) (hash : ℕ → K → ℕ) where
  pub endings_are_shown : EndingsAreShown K V same hash
  endings_are_shown name m known s old new at shown i said leads_to f here map not_there may =
      let to = leads_to f here in (
        tells_next same hash name m known s old new at shown i f here to.0 said to.1 to.2 map not_there said to.3,
        ending_shown same hash name m known s old new at shown i f here to.0 said to.1 to.2 map not_there said refl to.3 may,
      )
