-- A step of a call on a map that stands, or a reply to one, leaves each making what it has.
use Rattle.std.specs.Prelude.{◌≡◌, ◌≢◌, ℕ, Bool, Option, Some, None}
use Rattle.std.proofs.Common.{refl, ap, sym, subst, ◌∙◌, inl, inr}
use Rattle.many_calls.specs.Given.SeizeWordsDeclared.at.At.{At}
use Rattle.many_calls.specs.Given.SeizeWordsDeclared.at.At.TheVariants.{Root, Used, Word}
use Rattle.many_calls.specs.Given.SeizeWordsMem.{Mem, word_at}
use Rattle.many_calls.specs.Given.SeizeWorld.{World, IsInside, with_at}
use Rattle.many_calls.specs.Given.TablesDeclared.node.Node.{Node}
use Rattle.many_calls.specs.Given.TablesDeclared.node.Node.TheVariants as node
use Rattle.many_calls.specs.Given.TablesDeclared.setting.Setting.{Setting}
use Rattle.many_calls.specs.Given.RuleBeside.{KeptBeside}
use Rattle.many_calls.specs.Given.RuleChart.{Chart}
use Rattle.many_calls.specs.Given.RuleWords.{Blocks}
use Rattle.many_calls.specs.Given.RuleInWorld.{IsOut, IsKnownBlock, IsIts, InFootprint, StepSpec}
use Rattle.many_calls.proofs.Given.RuleWorld.BesideKept.{steps_spare_others}
use Rattle.many_calls.proofs.Given.RuleWorld.WentTold.{went_as}
use Rattle.many_maps.specs.Makings.{Beginning, HasMade, HasOwnCounter, MakingsTogether, CallsPreserveWithMakings, RepliesPreserveWithMakings, CallsBeginWithMakings}
use Rattle.many_maps.specs.Maps.{Standing, with_call, MapsTogether}
use Rattle.many_calls.specs.Sights.{Visible, seen_by}
use Rattle.many_calls.specs.Together.{OnKey, UnderWay, in_slot}
use Rattle.many_maps.proofs.Beside.Makings.Beside.{LeavesMakings, makings_on}
use Rattle.many_maps.proofs.Beside.Makings.Lasts.{counter_on}
use Rattle.many_maps.proofs.Beside.Maps.Comes.{each_at, calls_begin_in_maps}
use Rattle.many_maps.proofs.Beside.Maps.OtherSteps.{known_out}
use Rattle.many_maps.proofs.Beside.Maps.Steps.{seen_known, calls_stand_in_maps, replies_stand_in_maps}
use Rattle.many_calls.proofs.Together.At.{at_other, at_same}
use Rattle.std.proofs.lemmas.Bool.{cases_eq}

-- A call of one caller more, or one that went on or ended, leaves another one without a call.
pub call_elsewhere : {X : Type 0} (calls : ℕ → ℕ → Option X) (m i : ℕ) (it : Option X) (j : ℕ) → j ≢ i → (n : ℕ) → ((l : ℕ) → calls l j ≡ None) → with_call calls m i it n j ≡ None
call_elsewhere {X} calls m i it j other n alone = elim (cases_eq n m) as (λ _. with_call calls m i it n j ≡ None) [
  | inl e ↦ ap (λ (f : ℕ → Option X). f j) (at_same calls m (with_at (calls m) i it) n e) ∙ at_other (calls m) i it j other ∙ alone m
  | inr ne ↦ ap (λ (f : ℕ → Option X). f j) (at_other calls m (with_at (calls m) i it) n ne) ∙ alone n
]

module _ {K Q : Type 0} (V : Type 0) (same : K → K → Bool) (asks : Q → K → Bool) (batch_size roots : ℕ) (slot : ℕ → ℕ)
    (w : World (Node K V)) (maps : ℕ → Option (Standing K)) (calls : ℕ → ℕ → Option (UnderWay K V Q)) (makers : ℕ → Option (Beginning K))
    (all : MakingsTogether V same asks batch_size roots slot w maps calls makers) where
  -- who makes a map is not who has a call
  pub no_maker : (m i : ℕ) (u : UnderWay K V Q) → calls m i ≡ Some u → (j : ℕ) (b : Beginning K) → makers j ≡ Some b → j ≢ i
  no_maker m i u has j b makes e = let none = subst (λ (x : ℕ). calls m x ≡ None) e (all.alone j b makes m) in cc (none, has)

  -- and a call more, or one that went on or ended, leaves it so
  pub still_alone : (m i : ℕ) (it : Option (UnderWay K V Q)) → ((j : ℕ) (b : Beginning K) → makers j ≡ Some b → j ≢ i) → (j : ℕ) (b : Beginning K) → makers j ≡ Some b → (n : ℕ) → with_call calls m i it n j ≡ None
  still_alone m i it other j b makes n = call_elsewhere calls m i it j (other j b makes) n (all.alone j b makes)

  -- Nothing has changed but one call, of a caller that makes no map: where the maps stand with it, the makings go on.
  pub makings_with_call : (m i : ℕ) (it : Option (UnderWay K V Q)) → ((j : ℕ) (b : Beginning K) → makers j ≡ Some b → j ≢ i) → MapsTogether V same asks batch_size slot w maps (with_call calls m i it)
      → MakingsTogether V same asks batch_size roots slot w maps (with_call calls m i it) makers
  makings_with_call m i it other stand = record {
    standing = stand;
    free = all.free;
    used = all.used;
    facts = all.facts;
    alone = still_alone m i it other;
    coming = all.coming;
    numbers = all.numbers;
    their_roots = all.their_roots;
    roots_apart = all.roots_apart;
    counters_apart = all.counters_apart;
  }

  module _ (m : ℕ) (s : Standing K) (here : maps m ≡ Some s) (i : ℕ) (u : UnderWay K V Q) (has : calls m i ≡ Some u) where
    abbrev seen : Blocks
    seen = seen_by s.blocks (s.sights (slot i))

    abbrev its : Setting
    its = in_slot s.setting (slot i)

    module _ (in_it : IsInside (w.uses (slot i))) (m2 : Mem (Node K V)) (Told : World (Node K V) → Chart K → Blocks → Type 0)
        (went : StepSpec same s.hash (in_slot s.setting (slot i)) i w s.chart (seen_by s.blocks (s.sights (slot i))) m2 Told) where
      word_stays : (at : At) (word : ℕ) → word_at w.memory at ≡ Some word → (InFootprint its i w s.chart seen at → ⊥) → word_at went.w2.memory at ≡ Some word
      word_stays at word is apart = ap (λ (x : Mem (Node K V)). word_at x at) went.memory ∙ went.frame.words at word is apart

      out : (b : ℕ) → IsKnownBlock s.chart seen b → IsOut (w.hand b)
      out b known = known_out same s.hash asks s.setting slot w s.chart s.blocks s.sights (calls m) (all.standing.each m s here) b (seen_known V same asks batch_size slot w maps calls all.standing m s here i u has in_it b known)

      -- a counter that is being filled in is none of the step
      module _ (j : ℕ) (b : Beginning K) (makes : makers j ≡ Some b) (made : HasMade b.machine.stands) (h : HasOwnCounter w j b.machine.setting) where
        not_its : IsIts i w s.chart seen b.machine.setting.counter → ⊥
        not_its (inl own) = own.1 h.value
        not_its (inr known) = subst IsOut h.hand (out b.machine.setting.counter known)

        beside : KeptBeside i w s.chart seen b.machine.setting.counter w went.w2
        beside = steps_spare_others V same s.hash its i w s.chart seen m2
            (went_as same s.hash its i w s.chart seen m2 Told (λ w3 c3 b3. Unit {0}) (λ w3 c3 b3 map moved blocks_same told. tt) went) b.machine.setting.counter node.Shards h.value not_its

        not_written : (field : ℕ) → InFootprint its i w s.chart seen (Word b.machine.setting.counter field) → ⊥
        not_written field (inl known) = not_its (inr (inl known))
        not_written field (inr (inl own)) = not_its (inl own)
        not_written field (inr (inr is)) = all.counters_apart j m b s makes here made is

        counter_stays : HasOwnCounter went.w2 j b.machine.setting
        counter_stays = counter_on same j w went.w2 b.machine.setting beside.value beside.hand (λ field word is. word_stays (Word b.machine.setting.counter field) word is (not_written field)) h

      pub call_leaves : LeavesMakings V same asks batch_size roots slot w maps makers went.w2
      call_leaves = record {
        used = λ r word is. word_stays (Used r) word is (λ none. none);
        root = λ r word is apart. word_stays (Root r) word is (λ e. apart (m, s, here, e));
        own = λ j b makes. went.spares j (no_maker m i u has j b makes);
        counter = counter_stays;
      }

    -- what the step leads to
    module _ (c2 : Chart K) (blocks2 : Blocks) (sights2 : ℕ → Visible) where
      abbrev after : Standing K
      after = record s { chart = c2; blocks = blocks2; sights = sights2 }

      pub settings : (n : ℕ) (s2 : Standing K) → with_at maps m (Some after) n ≡ Some s2 → (r : Standing K) × (maps n ≡ Some r) × (s2.setting ≡ r.setting)
      settings = each_at V same asks batch_size slot maps m after (λ n s2. (r : Standing K) × (maps n ≡ Some r) × (s2.setting ≡ r.setting)) (s, here, refl) (λ n s2 ne is. (s2, is, refl))

      pub nones : (n : ℕ) → maps n ≡ None → with_at maps m (Some after) n ≡ None
      nones n none = at_other maps m (Some after) n (λ e. absurd (let at = ap maps (sym e) ∙ none in cc (at, here))) ∙ none

module _ {K Q : Type 0} (V : Type 0) (same : K → K → Bool) (asks : Q → K → Bool) (batch_size roots : ℕ) (slot : ℕ → ℕ) where
  pub calls_stand_beside : CallsPreserveWithMakings V same asks batch_size roots slot
  calls_stand_beside w maps calls makers all m s here i u has none =
      let leads = calls_stand_in_maps V same asks batch_size slot w maps calls all.standing m s here i u has none in (
        leads.0,
        λ m2 p2 progress st.
            let to = leads.1 m2 p2 progress st in
            record {
              step = to.step;
              together = makings_on V same asks batch_size roots slot w maps calls makers all to.step.went.w2
                  (call_leaves V same asks batch_size roots slot w maps calls makers all m s here i (OnKey u) has ((all.standing.each m s here).inside i (OnKey u) has) m2 _ to.step.went) _ _ to.together
                  (settings V same asks batch_size roots slot w maps calls makers all m s here i (OnKey u) has to.step.went.c2 to.step.blocks2 to.step.sights2)
                  (nones V same asks batch_size roots slot w maps calls makers all m s here i (OnKey u) has to.step.went.c2 to.step.blocks2 to.step.sights2)
                  (still_alone V same asks batch_size roots slot w maps calls makers all m i _ (no_maker V same asks batch_size roots slot w maps calls makers all m i (OnKey u) has));
            },
      )

  pub replies_stand_beside : RepliesPreserveWithMakings V same asks batch_size roots slot
  replies_stand_beside w maps calls makers all m s here i u has asks_at asks_it =
      let taken = replies_stand_in_maps V same asks batch_size slot w maps calls all.standing m s here i u has asks_at asks_it in (
        taken.0,
        taken.1,
        taken.2,
        λ about is reply.
            makings_with_call V same asks batch_size roots slot w maps calls makers all m i _ (no_maker V same asks batch_size roots slot w maps calls makers all m i (OnKey u) has) (taken.3 about is reply),
      )

  pub calls_begin_beside : CallsBeginWithMakings V same asks batch_size roots slot
  calls_begin_beside w maps calls makers all i free alone rests inside m s here keys pair call begun few =
      makings_with_call V same asks batch_size roots slot w maps calls makers all m i _ (λ j b makes e. (let none = ap makers (sym e) ∙ makes in cc (none, free)))
      (calls_begin_in_maps V same asks batch_size slot w maps calls all.standing i alone rests inside m s here keys pair call begun few)
