-- Where a row on a slot, or the end of a map, takes a step, and where any of these or the making of a map begins, shards are what they were.
use Rattle.std.specs.Prelude.{◌≡◌, ℕ, zero, suc, ◌≤◌, Bool, List, Option, Some, None}
use Rattle.std.proofs.Common.{refl, ap, sym, subst, ◌∙◌, arith, inl, inr}
use Rattle.std.proofs.lemmas.Bool.{cases_eq}
use Rattle.run_debts.specs.Given.SeizeWordsMem.{Mem, word_at}
use Rattle.run_debts.specs.Given.SeizeWordsDeclared.at.At.TheVariants.{Word}
use Rattle.run_debts.specs.Given.SeizeWorld.{World, Begin, Step, with_at, times}
use Rattle.run_debts.specs.Given.TablesDeclared.node.Node.{Node}
use Rattle.run_debts.specs.Given.TablesDeclared.setting.Setting.{Setting}
use Rattle.run_debts.specs.Given.RunsDeclared.effect.Effect.{Effect}
use Rattle.run_debts.specs.Given.SchedulesEffects.{with_effects}
use Rattle.run_debts.specs.Given.SchedulesMoment.{Moment}
use Rattle.run_debts.specs.Given.EffectsDeclared.changed.Changed.{Changed}
use Rattle.owner_calls.proofs.Given.CallersTogether.At.{at_other, at_same}
use Rattle.run_debts.specs.Given.EffectsEffects.{effects_of}
use Rattle.run_debts.specs.Given.EffectsKnown.{Known}
use Rattle.run_debts.specs.Given.EffectsDeclared.acting.Acting.TheVariants as acts
use Rattle.run_debts.specs.Given.EffectsDeclared.role.Role.TheVariants as role
use Rattle.run_debts.specs.Given.ScenesDeclared.row.RowTold.{RowTold}
use Rattle.run_debts.specs.Given.ScenesDeclared.row.SlotRow.{SlotRow}
use Rattle.run_debts.specs.Given.FinishesFactsEnds.{Deed, Spares, taken_by}
use Rattle.run_debts.specs.Given.FinishesMakings.{Beginning, HasMade}
use Rattle.run_debts.specs.Given.FinishesMaps.{Standing}
use Rattle.run_debts.proofs.Given.FollowsOperations.{Operated}
use Rattle.run_debts.specs.Given.MomentsWhole.{RefinesWhole}
use Rattle.run_debts.specs.Given.OthersEndings.{ending_after}
use Rattle.run_debts.specs.Given.OthersRows.{scene_then}
use Rattle.run_debts.proofs.Given.OthersRowPlans.{TellsRow, row_tells, row_operated}
use Rattle.run_histories.proofs.Histories.Aside.Elsewhere.{ending_at}
use Rattle.run_blocks.specs.Shards.ShardSteps.{RowsBeginCounters, RowsPreserveCounters, EndingsPreserveCounters, MakingsBeginCounters, EndingsBeginCounters}
use Rattle.run_blocks.specs.Shards.ShardWords.{RefinesShards, IsUncounted, MakesUncounted, RefinesCounters}
use Rattle.run_debts.proofs.Gains.{none_changed}
use Rattle.run_blocks.proofs.Shards.ShardKept.{none_shards, same_setting, word_kept, shards_kept, makes_kept, adds_kept}
use Rattle.run_debts.proofs.Uncounted.{CountsNowhere}
use Rattle.run_blocks.proofs.Shards.WordOps.{gone_there}
use Rattle.run_debts.proofs.Given.ScenesMay.{may_row}
use Rattle.run_debts.specs.Given.ScenesEnding.{ending_begun}
use Rattle.run_debts.specs.Given.ScenesHeld.{Held, IsAt}
use Rattle.run_debts.specs.Given.ScenesOnSlots.{HappensAt, RowSteps}
use Rattle.run_debts.specs.Given.ScenesRows.{request_of}
use Rattle.run_debts.specs.Given.ScenesScene.{IsOnSlot, Scene, slot_of}
use Rattle.run_debts.proofs.Given.General.{same_some as one_of}

-- in the same memory words are the same
memory_kept : {K V : Type 0} (m m2 : Mem (Node K V)) → m2 ≡ m → (c f x y : ℕ) → word_at m (Word c f) ≡ Some x → word_at m2 (Word c f) ≡ Some y → y ≡ x
memory_kept {K} {V} m m2 same c f x y was is = one_of y x (sym is ∙ ap (λ (n : Mem (Node K V)). word_at n (Word c f)) same ∙ was)

-- what a row tells is no word of a count
row_nowhere : (known : Known) (told : Changed) → TellsRow told → CountsNowhere known told
row_nowhere known told tells b field old new of is counter = absurd (subst TellsRow is tells)

module _ {K V : Type 0} (same : K → K → Bool) (hash : ℕ → K → ℕ) (name : ℕ → List ℕ) (m : Moment K V) (known : Known) (s : Scene K V) (old new : Held K V) (at_old : IsAt same hash old s)
    (whole : RefinesWhole same name m known s) (counters : RefinesCounters name m s) (i : ℕ) (row : SlotRow) (here : IsOnSlot s i row) (end : SlotRow × RowTold (Node K V))
    (steps : RowSteps K V row old.memory new.memory new.changed end) (happened : HappensAt same hash (Step i) s old new) where
  abbrev t : Scene K V
  t = scene_then same hash (Step i) s old new happened

  abbrev told : Changed
  told = new.changed

  made : Operated s.world.memory t.world.memory told
  made =
      subst (λ (n : Mem (Node K V)). Operated s.world.memory n told) (sym happened.4.memory)
      (subst (λ (n : Mem (Node K V)). Operated n new.memory told) (sym at_old.memory)
      (row_operated old.memory new.memory told end row (may_row same hash old s at_old i row here) steps))

  -- counters are noted as such
  abbrev IsCounter : ℕ → Type 0
  IsCounter c = (of : ℕ) × (known.roles c ≡ role.Counter of)

  keeps : (c f x y : ℕ) → IsCounter c → word_at s.world.memory (Word c f) ≡ Some x → word_at t.world.memory (Word c f) ≡ Some y → y ≡ x
  keeps c f x y its was is =
      word_kept known s.world.memory t.world.memory told made (row_nowhere known told (row_tells old.memory new.memory told end row steps)) c f x y its.0 its.1 was is

  row_counters : RefinesCounters name (with_effects None None (effects_of acts.Row known told) m) t
  row_counters =
      let v : Moment K V = with_effects None None (effects_of acts.Row known told) m in
      let shards = none_shards None (effects_of acts.Row known told) m in
      record {
        shards = shards_kept same hash m v s t new happened.4 IsCounter keeps shards (λ n st is. (n, (whole.all.shown.maps n st is).counter))
            (λ n st is. same_setting (s.maps n) (happened.2 n) (happened.3 n) st is) counters.shards;
        makes = makes_kept same hash m v s t new happened.4 IsCounter keeps shards refl (λ j b is has_made. (b.map, whole.counters j b is has_made)) counters.makes;
        adds = adds_kept name m v s t (none_changed None (effects_of acts.Row known told) m) refl counters.adds;
      }

-- a block that is there after a step of an end was not taken away, and has its words
module _ {K V : Type 0} (setting : Setting) (caller : ℕ) (w w2 : World (Node K V)) (deed : Deed) (spares : Spares setting caller w w2 deed) where
  spared : (c f x y : ℕ) → word_at w.memory (Word c f) ≡ Some x → word_at w2.memory (Word c f) ≡ Some y → y ≡ x
  spared c f x y was is = by (times c (taken_by deed)) refl
    where
      by : (n : ℕ) → times c (taken_by deed) ≡ n → y ≡ x
      by zero e = one_of y x (sym is ∙ spares.words c f e ∙ was)
      by (suc n) e = absurd (gone_there w2.memory c f (spares.gone c (omega (arith, e))) y is)

-- where each word that is there is what it was, and calls, maps and makings are as they were
module _ {K V : Type 0} (same : K → K → Bool) (hash : ℕ → K → ℕ) (name : ℕ → List ℕ) (m v : Moment K V) (s t : Scene K V) (new : Held K V) (at_new : IsAt same hash new t)
    (counters : RefinesCounters name m s) (shards : v.shards ≡ m.shards) (calls : v.calls ≡ m.calls) where
  abbrev AnyBlock : ℕ → Type 0
  AnyBlock c = Unit {0}

  words_kept : ((c f x y : ℕ) → word_at s.world.memory (Word c f) ≡ Some x → word_at t.world.memory (Word c f) ≡ Some y → y ≡ x)
      → ((n : ℕ) (st : Standing K) → t.maps n ≡ Some st → (before : Standing K) × (s.maps n ≡ Some before) × (st.setting ≡ before.setting)) → t.calls ≡ s.calls → t.makers ≡ s.makers → RefinesCounters name v t
  words_kept keeps stood under_way makers = record {
    shards = shards_kept same hash m v s t new at_new AnyBlock (λ c f x y its was is. keeps c f x y was is) shards (λ n st is. tt) stood counters.shards;
    makes = makes_kept same hash m v s t new at_new AnyBlock (λ c f x y its was is. keeps c f x y was is) shards makers (λ j b is has_made. tt) counters.makes;
    adds = adds_kept name m v s t calls under_way counters.adds;
  }

module _ (K V : Type 0) (same : K → K → Bool) (hash : ℕ → K → ℕ) where
  pub rows_begin_counters : RowsBeginCounters K V same hash
  rows_begin_counters name m s old new at_old counters called i leads =
      let t : Scene K V = scene_then same hash (Begin i (request_of (slot_of i) called)) s old new leads.2 in
      words_kept same hash name m m s t new leads.2.4 counters refl refl
      (λ c f x y was is. memory_kept s.world.memory t.world.memory
      (leads.2.4.memory ∙ leads.0 ∙ sym at_old.memory) c f x y was is)
      (λ n st is. same_setting (s.maps n) (leads.2.2 n) (leads.2.3 n) st is) refl refl

  pub rows_keep_counters : RowsPreserveCounters K V same hash
  rows_keep_counters name m known s old new at_old whole counters i told leads row here =
      let to = leads row here in row_counters same hash name m known s old new at_old whole counters i row here (to.0, told) to.1 to.2

  pub endings_keep_counters : EndingsPreserveCounters K V same hash
  endings_keep_counters name m known s old new at_old counters i told leads f here map =
      let to = leads f here in
      let it = ending_at same hash s old new i f to.0 to.2.w2 to.2.deed told to.3 in
      let t : Scene K V = ending_after same hash s new i f to.0 to.2.w2 to.2.deed told to.3 in
      let effects : List Effect = effects_of (acts.Ending map) known new.changed in
      words_kept same hash name m (with_effects None (Some map) effects m) s t new it.3 counters (none_shards (Some map) effects m) (none_changed (Some map) effects m)
      (λ c x a b was is. spared f.setting i s.world to.2.w2 to.2.deed to.2.spares c x a b was (subst (λ (w : World (Node K V)). word_at w.memory (Word c x) ≡ Some b) it.0 is))
      (λ n st is. (st, subst (λ (g : ℕ → Option (Standing K)). g n ≡ Some st) it.2 is, refl)) it.1 it.4

module _ (K V : Type 0) where
  pub makings_begin_counters : MakingsBeginCounters K V
  makings_begin_counters name m s counters i b none uncounted = record { shards = counters.shards; makes = makes_then; adds = counters.adds }
    where
      makes_then : MakesUncounted m (record s { makers = with_at s.makers i (Some b) })
      makes_then j d is = elim (cases_eq j i) as (λ _. IsUncounted d.map m
          × (HasMade d.machine.stands → (shard : ℕ) → shard ≤ d.machine.setting.mask → word_at s.world.memory (Word d.machine.setting.counter shard) ≡ Some 0)) [
            | inl e ↦
                let one : b ≡ d = one_of b d (sym (at_same s.makers i (Some b) j e) ∙ is) in (
                  subst (λ (x : Beginning K). IsUncounted x.map m) one uncounted,
                  λ has_made shard few. absurd (none (subst (λ (x : Beginning K). HasMade x.machine.stands) (sym one) has_made)),
                )
            | inr ne ↦ counters.makes j d (sym (at_other s.makers i (Some b) j ne) ∙ is)
          ]

  pub endings_begin_counters : EndingsBeginCounters K V
  endings_begin_counters name m s counters map i standing = record { shards = shards_then; makes = counters.makes; adds = counters.adds }
    where
      shards_then : RefinesShards m (ending_begun map i standing s)
      shards_then n st is shard few = elim (cases_eq n map) as (λ _. word_at s.world.memory (Word st.setting.counter shard) ≡ Some (m.shards n shard)) [
        | inl e ↦ absurd (let none = at_same s.maps map None n e in cc (none, is))
        | inr ne ↦ counters.shards n st (sym (at_other s.maps map None n ne) ∙ is) shard few
      ]
