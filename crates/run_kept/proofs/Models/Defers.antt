-- A row within a call that defers a pair behind a table tells it just once: as the pair takes the place of the head of the table's list.
use Rattle.std.specs.Prelude.{◌==◌, ◌≢◌, Option, Some, None, Ok, Err, flat_map, length, if◌then◌else◌}
use Rattle.std.proofs.Common.{◌≡◌, ℕ, ◌+◌, Bool, true, false, List, [], ◌∷◌, ◌++◌, ◌⊎◌, inl, inr, refl, ap, sym, subst, arith, ◌∙◌}
use Rattle.std.proofs.lemmas.Bool.{eq-eqb, ne_eqb}
use Rattle.std.proofs.lemmas.List.{append-nil}
use Rattle.std.proofs.lemmas.List.Concat.{flat_map-cons}
use Rattle.run_schedules.specs.Given.SeizeWordsDeclared.at.At.{At}
use Rattle.run_schedules.specs.Given.SeizeWordsDeclared.at.At.TheVariants.{Word}
use Rattle.run_schedules.specs.Given.SeizeWordsMem.{Mem, same_at, value_at, word_at, with_word, Can, Took}
use Rattle.run_schedules.specs.Given.SeizeWordsOp.{Out, Exchange, Found, Stored, Exchanged, Made, Taken, Roomed}
use Rattle.run_schedules.specs.Given.SeizeWordsPlan.{May, Ends, Steps}
use Rattle.run_schedules.specs.Given.SeizeWordsWord.{link_to, block_in}
use Rattle.seize.specs.declared.states.TheConstants.{LAST_SLOT}
use Rattle.seize.specs.declared.advance.Advance.{Advance}
use Rattle.seize.specs.declared.advance.Advance.TheVariants as progress
use Rattle.seize.specs.declared.rows.defer.Defer.{Defer}
use Rattle.seize.specs.declared.rows.defer.Deferring.{Deferring}
use Rattle.seize.specs.declared.rows.defer.Deferring.TheVariants as deferring
use Rattle.seize.specs.Defer.{standing, head_read, after_push, defer_plan, plan_at, deferring as deferring_to}
use Rattle.seize.specs.Sequence.{changes}
use Rattle.seize.specs.WaitingSets.{Change, Defers}
use Rattle.seize.specs.World.{World, Row, Rests, Registers, Enters, Settles, Leaves, Defers as DefersRow, Frees, Request, Defer', Begin, Step, Begins, Happens, Steps', defers_on}
use Rattle.run_executor.proofs.Given.SeizeMovesState.Ghost.{Life, IsFree, IsOwned, IsLinked, IsUnlinked, IsDeferring, IsDeferred, IsPending, IsIn, IsDoomed, IsLeft, lies_with, can_carry}
use Rattle.run_executor.specs.Given.SeizeWaitingHeld.{count}
use Rattle.run_executor.proofs.Given.SeizeRulePoints.Retire.{of_link}
use Rattle.run_executor.proofs.Given.SeizeRuleRows.Known.{OnWay, FitsDefer, FitsRow}
use Rattle.run_executor.proofs.Given.SeizeRuleRows.Others.{with_here}
use Rattle.run_executor.proofs.Given.SeizeMemoryWords.Chains.{Chain}
use Rattle.run_executor.proofs.Given.SeizeMemoryWords.Named.{word_found}
use Rattle.run_executor.proofs.Given.SeizeMemoryWords.Shows.{DeferredIs, DrainedIs}
use Rattle.run_executor.proofs.Given.SeizeMemoryWords.View.{view}
use Rattle.run_executor.proofs.Given.SeizeRuleWorld.Good.{Good}
use Rattle.run_executor.proofs.Given.SeizeRuleWorld.Kept.{row_may}
use Rattle.run_executor.proofs.Given.SeizeAloneHistories.Reached.{Reached}
use Rattle.papaya_raw.specs.Given.TablesNodes.{deferred_word}
use Rattle.papaya_raw.specs.Given.TablesDeclared.node.Node.{Node}
use Rattle.papaya_raw.specs.Given.TablesDeclared.node.Node.TheVariants as node
use Rattle.papaya_raw.specs.Given.TablesDeclared.table_words.TheConstants.{DEFERRED}
use Rattle.run_executor.specs.Given.EffectsDeclared.changed.Changed.{Changed}
use Rattle.run_executor.specs.Given.EffectsDeclared.changed.Changed.TheVariants as changed
use Rattle.papaya_raw.specs.declared.machines.progress.Progress.{Progress as ProgressOfCall}
use Rattle.run_executor.specs.Given.CallersTogether.{UnderWay}
use Rattle.run_executor.proofs.Given.CallersTogether.Came.{came_reached, came_next}
use Rattle.run_executor.specs.Given.EffectsEffects.{names_same, effects_of, known_after}
use Rattle.run_executor.specs.Given.EffectsKnown.{Known}
use Rattle.run_executor.specs.Given.EffectsDeclared.acting.Acting.TheVariants.{Call}
use Rattle.run_executor.specs.Given.EffectsDeclared.role.Role.{Role}
use Rattle.run_executor.specs.Given.EffectsDeclared.role.Role.TheVariants as role
use Rattle.run_executor.specs.Given.FollowsBlocks.{HasRole}
use Rattle.run_executor.proofs.Given.FollowsOnward.{KeepsRoles}
use Rattle.run_executor.proofs.Given.FollowsOperations.{LeavesBy, Operated, operated_leaves}
use Rattle.run_executor.proofs.Given.HandsHanding.{plan_aside}
use Rattle.run_executor.specs.Given.MomentsWhole.{RefinesWhole}
use Rattle.run_schedules.specs.Schedules.Model.{number_in, handing}
use Rattle.run_schedules.specs.Schedules.Moment.{Moment}
use Rattle.run_schedules.specs.declared.effect.Effect.{Effect}
use Rattle.run_schedules.specs.declared.effect.Effect.TheVariants as effect
use Rattle.run_schedules.specs.declared.effect.Thing.{Thing}
use Rattle.run_schedules.specs.declared.effect.Thing.TheVariants.{APair, ATable}
use Rattle.run_executor.proofs.Given.SpotsHanding.{AllKeep}
use Rattle.run_kept.specs.Models.Alike.{ChangesAlike}
use Rattle.run_kept.specs.Models.Defers.{IsStillPending, IsDone, IsToDefer, HasDeferred, AreNoted, HasReportedDefer, DefersAreReported}
use Rattle.run_kept.specs.Models.Numbers.{HasNumber, AreOfThings}
use Rattle.run_kept.proofs.Models.Calls.{one_step, kept_numbers}
use Rattle.run_kept.proofs.Models.Handing.{nothing_handed, keep_of}
use Rattle.run_kept.proofs.Models.HandsOver.{No, Stepped, to, came, made, keeps}
use Rattle.run_kept.proofs.Models.Told.{quiet_keeps, word_defers, is_told}
use Rattle.run_executor.specs.Given.ScenesHeld.{Held, IsAt}
use Rattle.run_executor.specs.Given.ScenesScene.{Scene}
use Rattle.run_executor.specs.Given.ScenesStepping.{StepLeads}

itself : (t field : ℕ) → same_at (Word t field) (Word t field) ≡ true
itself t field = grind (arith, eq-eqb t t refl, eq-eqb field field refl)

defers_memory : {T : Type 0} (w : World T) (i s : ℕ) (m : Mem T) (end : Defer × Advance Unit) → (defers_on w i s m end).memory ≡ m
defers_memory w i s m (d, progress.Goes) = refl
defers_memory w i s m (d, progress.Waits) = refl
defers_memory w i s m (d, progress.Done u) = refl
defers_memory w i s m (d, progress.Refused fault) = refl

-- what a list begins with, where it is not drained
deferred_chain : (nexts : ℕ → ℕ) (own : ℕ → ℕ) (o : Option ℕ) (q : Bool) (l : List ℕ) (d : ℕ) → o ≡ Some d → q ≡ false → DeferredIs nexts own o q l → Chain 0 nexts (own d) l
deferred_chain nexts own None q l d e f h = absurd (cc e)
deferred_chain nexts own (Some c) true l d e f h = absurd (cc f)
deferred_chain nexts own (Some c) false l d e f h = subst (λ (x : ℕ). Chain 0 nexts (own x) l) (let it : c ≡ d = cc e in it) h

not_drained : (l : Life) (dr : Bool) → ((j : ℕ) → l ≡ IsDoomed j → ⊥) → can_carry l ≡ true → DrainedIs l dr → dr ≡ false
not_drained IsFree dr none can h = h
not_drained (IsOwned i) dr none can h = h
not_drained IsLinked dr none can h = h
not_drained (IsUnlinked i) dr none can h = h
not_drained (IsDeferring i s t) dr none can h = h
not_drained (IsDeferred t) dr none can h = h
not_drained (IsPending i) dr none can h = h
not_drained (IsIn x) dr none can h = h
not_drained (IsDoomed i) dr none can h = absurd (none i refl)
not_drained (IsLeft i) dr none can h = absurd (cc can)

module _ {K V : Type 0} (size : ℕ) (w w2 : World (Node K V)) (reached : Reached deferred_word size w) (i map b t : ℕ) (known : Known) (told : Changed) (was_made : Operated w.memory w2.memory told) where
  abbrev n : ℕ
  n = LAST_SLOT + 1

  abbrev good : Good deferred_word n size w
  good = reached.good

  abbrev at : At
  at = Word t DEFERRED

  abbrev pub Quiet : Type 0
  Quiet = AllKeep (effects_of (Call i map) known told)

  -- the pair has taken the place of the head
  pub record Pushed : Type 0 where
    pub head : ℕ
    pub was : word_at w.memory at ≡ Some head
    pub other : block_in head ≡ b → ⊥
    pub memory : w2.memory ≡ with_word w.memory at (link_to b)

  left : LeavesBy w.memory w2.memory told
  left = operated_leaves w.memory w2.memory told was_made

  same_quiet : w2.memory ≡ w.memory → Quiet
  same_quiet same =
      quiet_keeps i map known told (λ x hands old new is.
      let l : LeavesBy w.memory w2.memory (changed.Wrote x old new) = subst (LeavesBy w.memory w2.memory) is left in
      let both : Some new ≡ Some old = sym l.1 ∙ ap (λ (k : Mem (Node K V)). word_at k x) same ∙ l.0 in cc both)

  module _ (s : ℕ) (c : Defer) (here : w.row i ≡ DefersRow s c) (mem2 : Mem (Node K V)) (end : Defer × Advance Unit)
      (st : Steps Took value_at w.memory (defer_plan c) mem2 end) (e : w2 ≡ defers_on w i s mem2 end) where
    memory_is : w2.memory ≡ mem2
    memory_is = ap (λ (u : World (Node K V)). u.memory) e ∙ defers_memory w i s mem2 end

    -- where it goes on
    on_row : (P : Row → Type 0) (d : Defer) → end ≡ (d, progress.Goes) → P (DefersRow s d) → P (w2.row i)
    on_row P d is p =
        subst (λ (u : World (Node K V)). P (u.row i)) (sym (e ∙ ap (defers_on w i s mem2) is)) (subst P (sym (with_here w.row i (DefersRow s d))) p)

    module _ (block_is : c.block ≡ link_to b) (at_is : c.table_word ≡ at) where
      abbrev Goes : Type 0
      Goes = (IsToDefer b at (w2.row i) × Quiet) ⊎ (HasDeferred (w2.row i) × Pushed)

      abbrev Due : Type 0
      Due = IsToDefer b at (w2.row i)

      reads_on : IsStillPending c.stands → (out : Out (Node K V)) → Ends (value_at mem2) (head_read c out) end → Due
      reads_on due (Found head) h = on_row (IsToDefer b at) (standing c (deferring.Links head)) h (block_is, at_is, tt)
      reads_on due _ h = on_row (IsToDefer b at) c h (block_is, at_is, due)

      other_head : (head found : ℕ) → c.stands ≡ deferring.Pushes head → word_at w.memory at ≡ Some found → block_in found ≡ b → ⊥
      other_head head found stands was named = by (good.state.deferred on.t) refl
        where
          fits : FitsDefer n i (view deferred_word w.memory) good.state good.extra s c.block c.table_word (deferring.Pushes head)
          fits = subst (FitsDefer n i (view deferred_word w.memory) good.state good.extra s c.block c.table_word) stands
              (subst (λ (r : Row). FitsRow n i (view deferred_word w.memory) good.state good.extra (length w.memory.slots) r) here (good.rows i))

          on : OnWay n i (view deferred_word w.memory) good.state good.extra s c.block c.table_word
          on = fits.on

          number : on.b ≡ b
          number = let x = on.block_is in let y = block_is in omega (arith, x, y)

          name : Word on.t on.d ≡ Word t DEFERRED
          name = sym on.at_is ∙ at_is

          own : (view deferred_word w.memory).own on.t on.d ≡ found
          own = word_found w.memory (Word on.t on.d) found (ap (word_at w.memory) name ∙ was)

          lies : lies_with on.t (good.state.life on.b) ≡ true
          lies = ap (lies_with on.t) on.life ∙ eq-eqb on.t on.t refl

          carrier : can_carry (good.state.life on.t) ≡ true
          carrier = (good.inv.places.carries on.b on.t lies).2

          not_doomed : (j : ℕ) → good.state.life on.t ≡ IsDoomed j → ⊥
          not_doomed j doomed = (let w0 = on.life in grind (arith, good.inv.logged.on_way on.b i s on.t w0, good.inv.logged.guarded s on.t, doomed))

          chain : Chain 0 (view deferred_word w.memory).nexts ((view deferred_word w.memory).own on.t on.d) (good.state.deferred on.t)
          chain = deferred_chain (view deferred_word w.memory).nexts ((view deferred_word w.memory).own on.t) ((view deferred_word w.memory).lists on.t) (good.extra.drained on.t) (good.state.deferred on.t) on.d
              on.list (not_drained (good.state.life on.t) (good.extra.drained on.t) not_doomed carrier (good.shows.lists.drains on.t)) (good.shows.lists.deferring on.t)

          by : (l : List ℕ) → good.state.deferred on.t ≡ l → ⊥
          by [] none =
              let zero_is : (view deferred_word w.memory).own on.t on.d ≡ 0 = subst (λ (l : List ℕ). Chain 0 (view deferred_word w.memory).nexts ((view deferred_word w.memory).own on.t on.d) l) none chain in
              let found_is : found ≡ 0 = sym own ∙ zero_is in
              let nil : block_in found ≡ 0 = ap block_in found_is in
              let pos = on.some in let num = number in omega (arith, nil, named, pos, num)
          by (x ∷ l) some =
              let ch = subst (λ (l : List ℕ). Chain 0 (view deferred_word w.memory).nexts ((view deferred_word w.memory).own on.t on.d) l) some chain in
              let first : block_in found ≡ x = of_link found x (sym own ∙ ch.1) in
              let same : x ≡ on.b = sym first ∙ named ∙ sym number in
              let counted : count on.b (x ∷ l) ≡ 0 = ap (count on.b) (sym some) ∙ (let life = on.life in grind (arith, good.inv.places.all_deferred on.t on.b, life)) in
              let one : count x (x ∷ l) ≡ 0 = ap (λ (y : ℕ). count y (x ∷ l)) same ∙ counted in
              grind (arith, one)

      pushes_on : (head : ℕ) → c.stands ≡ deferring.Pushes head → (out : Out (Node K V)) → Took w.memory (Exchange c.table_word head c.block) out mem2 → Ends (value_at mem2) (after_push c out) end → Goes
      pushes_on head stands (Exchanged (Ok found)) took h =
          let was : word_at w.memory at ≡ Some found = ap (word_at w.memory) (sym at_is) ∙ took.0.0 in
          inr (
            on_row HasDeferred (standing c deferring.Over) h tt,
            record {
              head = found;
              was = was;
              other = other_head head found stands was;
              memory = memory_is ∙ took.1 ∙ ap (λ (x : At). with_word w.memory x c.block) at_is ∙ ap (with_word w.memory at) block_is;
            },
          )
      pushes_on head stands (Exchanged (Err found)) took h =
          inl (on_row (IsToDefer b at) (standing c (deferring.Links found)) h (block_is, at_is, tt), same_quiet (memory_is ∙ took.1))
      pushes_on head stands (Found word) took h = absurd took.0
      pushes_on head stands Stored took h = absurd took.0
      pushes_on head stands (Made got) took h = absurd took.0
      pushes_on head stands (Taken got) took h = absurd took.0
      pushes_on head stands (Roomed got) took h = absurd took.0

      links_quiet : (head : ℕ) → c.stands ≡ deferring.Links head → Quiet
      links_quiet head stands =
          quiet_keeps i map known told (λ x hands old new is.
          let l : LeavesBy w.memory w2.memory (changed.Wrote x old new) = subst (LeavesBy w.memory w2.memory) is left in
          plan_aside w.memory w2.memory x hands old new l.0 l.1 l.2 (plan_at c (deferring.Links head)) end (λ k. omega (arith, k))
          (subst (λ (p : Deferring). May Can Took value_at w.memory (plan_at {T = Node K V} c p)) stands (row_may deferred_word n size refl w good i (DefersRow s c) here))
          (subst (λ (k : Mem (Node K V)). Steps Took value_at w.memory (plan_at c (deferring.Links head)) k end) (sym memory_is)
          (subst (λ (p : Deferring). Steps Took value_at w.memory (plan_at c p) mem2 end) stands st)))

      due_on : (p : Deferring) → c.stands ≡ p → IsStillPending p → Steps Took value_at w.memory (plan_at c p) mem2 end → Goes
      due_on deferring.Reads stands due step = inl (reads_on (subst IsStillPending (sym stands) due) step.0 step.2, same_quiet (memory_is ∙ step.1.1))
      due_on (deferring.Links head) stands due step = inl (on_row (IsToDefer b at) (standing c (deferring.Pushes head)) step.2 (block_is, at_is, tt), links_quiet head stands)
      due_on (deferring.Pushes head) stands due step = pushes_on head stands step.0 step.1 step.2
      due_on deferring.Over stands due step = absurd due

    done_on : (p : Deferring) → c.stands ≡ p → IsDone p → Steps Took value_at w.memory (plan_at c p) mem2 end → HasDeferred (w2.row i) × Quiet
    done_on deferring.Reads stands done step = absurd done
    done_on (deferring.Links head) stands done step = absurd done
    done_on (deferring.Pushes head) stands done step = absurd done
    done_on deferring.Over stands done step = (
      subst (λ (u : World (Node K V)). HasDeferred (u.row i)) (sym (e ∙ ap (defers_on w i s mem2) step.1)) (subst HasDeferred (sym (with_here w.row i Rests)) tt),
      same_quiet (memory_is ∙ step.0),
    )

  due_step : (row : Row) → w.row i ≡ row → Steps' deferred_word i row w w2 → IsToDefer b at row → (IsToDefer b at (w2.row i) × Quiet) ⊎ (HasDeferred (w2.row i) × Pushed)
  due_step Rests here step is = absurd is
  due_step (Registers c) here step is = absurd is
  due_step (Enters c) here step is = absurd is
  due_step (Leaves c) here step is = absurd is
  due_step (Settles c) here step is = absurd is
  due_step (Frees c) here step is = absurd is
  due_step (DefersRow s c) here (mem2, end, st, e) is = due_on s c here mem2 end st e is.0 is.1 c.stands refl is.2 st

  done_step : (row : Row) → w.row i ≡ row → Steps' deferred_word i row w w2 → HasDeferred row → HasDeferred (w2.row i) × Quiet
  done_step Rests here step is = absurd step
  done_step (Registers c) here step is = absurd is
  done_step (Enters c) here step is = absurd is
  done_step (Leaves c) here step is = absurd is
  done_step (Settles c) here step is = absurd is
  done_step (Frees c) here step is = absurd is
  done_step (DefersRow s c) here (mem2, end, st, e) is = done_on s c here mem2 end st e c.stands refl is st

  -- What it has told then.
  module _ (things : List Thing) (under : ℕ) (noted : AreNoted things known b t) (kept : KeepsRoles known (known_after (Call i map) told known)) (handed : List Change) where
    abbrev effects : List Effect
    effects = effects_of (Call i map) known told

    abbrev known2 : Known
    known2 = known_after (Call i map) told known

    nothing_more : Quiet → handed ++ flat_map (handing things under) effects ≡ handed
    nothing_more quiet = ap (λ (cs : List Change). handed ++ cs) (nothing_handed things under effects quiet) ∙ append-nil handed

    more : (l : List Change) → ChangesAlike (HasNumber known things) (Defers b t ∷ []) l → ChangesAlike (HasNumber known2 things) (Defers b t ∷ []) l
    more [] h = absurd h
    more (d ∷ []) h =
        let it = h.0 in ((it.0, it.1, kept_numbers known known2 kept things b it.0 it.2, kept_numbers known known2 kept things t it.1 it.3, it.4), tt)
    more (d ∷ e ∷ l) h = absurd h.1

    abbrev pair_number : ℕ
    pair_number = number_in things (APair noted.n)

    abbrev table_number : ℕ
    table_number = number_in things (ATable noted.table)

    named : block_in (link_to b) ≡ b
    named = of_link (link_to b) b refl

    said_now : Pushed → effects ≡ effect.Deferred noted.n noted.table ∷ []
    said_now pushed =
        let other : link_to b ≡ pushed.head → ⊥ = λ same. pushed.other (ap block_in (sym same) ∙ named) in
        let is = is_told w.memory w2.memory at (itself t DEFERRED) (λ bucket. refl) pushed.head (link_to b) pushed.was pushed.memory other told was_made in
        let differ : names_same pushed.head (link_to b) ≡ false = ne_eqb (block_in pushed.head) (block_in (link_to b)) (λ same. pushed.other (same ∙ named)) in
        ap (effects_of (Call i map) known) is ∙ word_defers i map known b t pushed.head noted.n noted.len noted.table noted.pair_is noted.table_is differ

    told_now : effects ≡ effect.Deferred noted.n noted.table ∷ [] → handed ≡ [] → ChangesAlike (HasNumber known2 things) (Defers b t ∷ []) (handed ++ flat_map (handing things under) effects)
    told_now said none =
        let all : handed ++ flat_map (handing things under) effects ≡ Defers pair_number table_number ∷ [] =
        ap (λ (cs : List Change). cs ++ flat_map (handing things under) effects) none ∙ ap (flat_map (handing things under)) said
        ∙ flat_map-cons (handing things under) (effect.Deferred noted.n noted.table) [] in
        let pair : HasNumber known things b pair_number = (APair noted.n, noted.pair_is, noted.pair_came, refl) in
        let table : HasNumber known things t table_number = (ATable noted.table, (noted.len, noted.table_is), noted.table_came, refl) in
        subst (ChangesAlike (HasNumber known2 things) (Defers b t ∷ [])) (sym all)
        ((pair_number, table_number, kept_numbers known known2 kept things b pair_number pair, kept_numbers known known2 kept things t table_number table, refl), tt)

    pub told_on : Steps' deferred_word i (w.row i) w w2 → HasReportedDefer things known i b t handed w
        → HasReportedDefer things known2 i b t (handed ++ flat_map (handing things under) effects) w2 × AreOfThings things effects
    told_on step (inl (is, nil)) = by (due_step (w.row i) refl step is)
      where
        by : (IsToDefer b at (w2.row i) × Quiet) ⊎ (HasDeferred (w2.row i) × Pushed)
            → HasReportedDefer things known2 i b t (handed ++ flat_map (handing things under) effects) w2 × AreOfThings things effects
        by (inl (still, quiet)) = (inl (still, nothing_more quiet ∙ nil), keep_of things effects quiet)
        by (inr (done, pushed)) =
            let said = said_now pushed in (inr (done, told_now said nil), subst (AreOfThings things) (sym said) ((noted.pair_came, noted.table_came), tt))
    told_on step (inr (is, alike)) =
        let on = done_step (w.row i) refl step is in (
          inr (on.0, subst (ChangesAlike (HasNumber known2 things) (Defers b t ∷ [])) (sym (nothing_more on.1)) (more handed alike)),
          keep_of things effects on.1,
        )

pub defers_are_told : (K V : Type 0) → DefersAreReported K V
defers_are_told K V things known i s b t handed w told rests before after = by told
  where
    by : HasReportedDefer things known i b t handed w → ChangesAlike (HasNumber known things) (changes (Defer' s b t) before after) handed
    by (inl (is, nil)) = absurd (subst (IsToDefer b (Word t DEFERRED)) rests is)
    by (inr (done, alike)) = alike

-- the word that a table's list begins with
list_word : (K V : Type 0) (len limit turn field : ℕ) → deferred_word {K = K} {V = V} (node.Table len limit turn) ≡ Some field → field ≡ DEFERRED
list_word K V len limit turn field e = by (len == 0) e
  where
    by : (q : Bool) → (if q then None else Some DEFERRED) ≡ Some field → field ≡ DEFERRED
    by true e = absurd (cc e)
    by false e = cc e

module _ {K V : Type 0} (same : K → K → Bool) (hash : ℕ → K → ℕ) (name : ℕ → List ℕ) (m : Moment K V) (known : Known) (s : Scene K V) (old new : Held K V) (at : IsAt same hash old s)
    (whole : RefinesWhole same name m known s) (map i : ℕ) (u : UnderWay K V K) (here : s.calls map i ≡ Some u) (told : ProgressOfCall (Node K V)) (leads : StepLeads same hash i told s old new) where
  abbrev Its : Type 0
  Its = No same hash name m known s old new at whole map i u here told leads

  abbrev w2 : World (Node K V)
  w2 = (to same hash name m known s old new at whole map i u here told leads).4.w2

  abbrev DidStep : Type 0
  DidStep = Stepped same hash name m known s old new at whole map i u here told leads

  -- a table's list begins with that word of it
  word_is : (things : List Thing) (b t field : ℕ) (noted : AreNoted things known b t) (value : Node K V) → value_at s.world.memory t ≡ Some value → deferred_word value ≡ Some field → field ≡ DEFERRED
  word_is things b t field noted value there list =
      let role_is : HasRole s.world m.stored t (role.Table noted.table noted.len) = subst (λ (r : Role). HasRole s.world m.stored t r) noted.table_is (whole.all.shown.blocks.roles t) in
      let both : Some value ≡ Some (node.Table noted.len role_is.0 noted.table.turn) = sym there ∙ role_is.1 in
      let value_is : value ≡ node.Table noted.len role_is.0 noted.table.turn = cc both in
      list_word K V noted.len role_is.0 noted.table.turn field (ap deferred_word (sym value_is) ∙ list)

  abbrev effects_now : List Effect
  effects_now = effects_of (Call i map) known new.changed

  -- what it has told then, and that it is of things
  abbrev Tells : (things : List Thing) (under b t : ℕ) → List Change → Type 0
  Tells things under b t handed =
      HasReportedDefer things (known_after (Call i map) new.changed known) i b t (handed ++ flat_map (handing things under) effects_now) w2 × AreOfThings things effects_now

  pub goes_on : (Its → ⊥) → s.world.row i ≢ Rests → (things : List Thing) (under b t : ℕ) (handed : List Change) → AreNoted things known b t → HasReportedDefer things known i b t handed s.world
      → Tells things under b t handed
  goes_on other goes things under b t handed noted so = by (one_step same hash name m known s old new at whole map i u here told leads other)
    where
      by : DidStep → Tells things under b t handed
      by (inl step) =
          told_on old.batch_size s.world w2 (came_reached old.batch_size s.world (came same hash name m known s old new at whole map i u here told leads)) i map b t known new.changed
          (made same hash name m known s old new at whole map i u here told leads other s.world refl) things under noted (keeps same hash name m known s old new at whole map i u here told leads other) handed
          step so
      by (inr (request, begun, hands, begins, step)) = absurd (goes begins.0)

  pub begun_tells : (Its → ⊥) → (request : Request) (begun : World (Node K V)) → Happens deferred_word old.batch_size (Begin i request) s.world begun
      → Happens deferred_word old.batch_size (Step i) begun w2 → (things : List Thing) (slot under b t : ℕ) → request ≡ Defer' slot b t → AreNoted things known b t → Tells things under b t []
  begun_tells other request begun begin step things slot under b t is noted =
      let h = subst (λ (r : Request). Begins deferred_word old.batch_size i r s.world begun) is begin.1 in
      let before = came same hash name m known s old new at whole map i u here told leads in
      let row : begun.row i ≡ DefersRow slot (deferring_to (link_to b) (Word t h.0)) =
      ap (λ (x : World (Node K V)). x.row i) h.7 ∙ with_here s.world.row i (DefersRow slot (deferring_to (link_to b) (Word t h.0))) in
      let memory : begun.memory ≡ s.world.memory = ap (λ (x : World (Node K V)). x.memory) h.7 in
      let list = h.4 in
      told_on old.batch_size begun w2 (came_reached old.batch_size begun (came_next old.batch_size s.world begun (Begin i request) before begin)) i map b t known new.changed
      (made same hash name m known s old new at whole map i u here told leads other begun memory) things under noted (keeps same hash name m known s old new at whole map i u here told leads other) []
      step
      (inl (
        subst (IsToDefer b (Word t DEFERRED)) (sym row) (refl, ap (Word t) (word_is things b t h.0 noted list.0 list.1 list.2), tt),
        refl,
      ))

  pub begins : (Its → ⊥) → s.world.row i ≡ Rests
      → (request : Request) × ((things : List Thing) (slot under b t : ℕ) → request ≡ Defer' slot b t → AreNoted things known b t
      → HasReportedDefer things (known_after (Call i map) new.changed known) i b t (flat_map (handing things under) effects_now) w2)
  begins other rests = by (one_step same hash name m known s old new at whole map i u here told leads other)
    where
      by : DidStep
          → (request : Request) × ((things : List Thing) (slot under b t : ℕ) → request ≡ Defer' slot b t → AreNoted things known b t
          → HasReportedDefer things (known_after (Call i map) new.changed known) i b t (flat_map (handing things under) effects_now) w2)
      by (inl step) = absurd (subst (λ (r : Row). Steps' deferred_word i r s.world w2) rests step)
      by (inr (request, begun, hands, begin, step)) = (request, λ things slot under b t is noted. (begun_tells other request begun begin step things slot under b t is noted).0)
