-- After a step by which all is reclaimed all is so that every step keeps: nobody has a call, a making or an end under way, so no table is left over, and what is in somebody's
-- hands is blank still.
use Rattle.std.specs.Prelude.{◌≡◌, ◌⊎◌, ℕ, Bool, List, [], ◌∷◌, Some, None}
use Rattle.std.proofs.Common.{refl, ap, sym, subst, ◌∙◌, inl, inr}
use Rattle.std.proofs.lemmas.Bool.{cases_eq}
use Rattle.run_schedules.specs.Given.SeizeWordsDeclared.at.At.{At}
use Rattle.run_schedules.specs.Given.SeizeWordsDeclared.at.At.TheVariants.{Root, Used, Slot, Entry, Word}
use Rattle.run_schedules.specs.Given.SeizeWordsOp.{Store}
use Rattle.run_shows.specs.Given.SeizeWordsWord.{block_in}
use Rattle.seize.specs.declared.rows.reclaim_all.ReclaimAll.{ReclaimAll}
use Rattle.seize.specs.declared.rows.settle.Settled.{Settled}
use Rattle.seize.specs.World.{World, Event, Begin, Step, Clears, Operates, Runs}
use Rattle.run_shows.proofs.Given.SeizeAloneHistories.Reached.{Reached, happens_reached}
use Rattle.papaya_raw.specs.Given.TablesNodes.{deferred_word}
use Rattle.papaya_raw.specs.Given.TablesDeclared.node.Node.{Node}
use Rattle.run_schedules.specs.declared.effect.Effect.{Effect}
use Rattle.run_schedules.specs.Schedules.Effects.{with_effects}
use Rattle.run_schedules.specs.Schedules.Moment.{Moment}
use Rattle.run_effects.specs.declared.changed.Changed.{Changed}
use Rattle.run_effects.specs.declared.changed.Changed.TheVariants as changed
use Rattle.run_effects.specs.Effects.Effects.{named, names_same, effects_of, known_after}
use Rattle.run_effects.specs.Effects.Known.{Known}
use Rattle.run_effects.specs.declared.acting.Acting.TheVariants.{Row}
use Rattle.run_effects.specs.declared.role.Role.{Role}
use Rattle.run_effects.specs.declared.role.Role.TheVariants as role
use Rattle.run_shows.specs.Given.CallersTogether.{UnderWay}
use Rattle.run_shows.specs.Given.FinishesFactsEnds.{TakesLeft, WritesRoot, events_of}
use Rattle.run_shows.specs.Reclaims.Slots.{AreItsRows}
use Rattle.run_shows.specs.Scenes.Reclaiming.{IsReclaiming, ReclaimingLeads}
use Rattle.run_shows.proofs.Follows.Alike.{put_here, put_elsewhere}
use Rattle.run_shows.proofs.Follows.Told.{roomed_as_many}
use Rattle.run_shows.proofs.Others.RowPlans.{TellsRow}
use Rattle.run_executor.specs.Given.MomentsWhole.{RefinesWhole}
use Rattle.run_kept.proofs.Given.SettlesEntryScenes.{as_zero, as_blank}
use Rattle.run_kept.proofs.Given.SettlesEntryUsers.{AllZero, event_zeros}
use Rattle.run_kept.proofs.Given.SettlesEntryWorlds.{step_zeros, begin_zeros}
use Rattle.run_kept.specs.Given.LivesBehind.{NoTableLeft}
use Rattle.run_kept.proofs.Given.LivesLeftTables.{none_is_left, where_none_is_left}
use Rattle.run_kept.specs.Kept.Kept.{RefinesKept}
use Rattle.run_kept.proofs.Kept.Ends.{maps_stay, stood_so}
use Rattle.run_logged.specs.Log.Reclaims.{ReclaimRetired}
use Rattle.run_kept.proofs.Sheds.Reclaiming.Finds.{reclaiming_finds}
use Rattle.run_kept.proofs.Sheds.Reclaiming.Handed.{reclaiming_handed}
use Rattle.run_kept.proofs.Sheds.Reclaiming.Kept.{reclaiming_comes}
use Rattle.run_kept.proofs.Sheds.Reclaiming.Rows.{EmptiesRoot, reclaiming_tells}
use Rattle.run_kept.proofs.Sheds.Reclaiming.Steps.{reached, no_call, root_none, nothing_there}
use Rattle.run_shows.specs.Scenes.Held.{Held}
use Rattle.run_shows.specs.Scenes.Scene.{Scene}
use Rattle.run_shows.proofs.Scenes.Leads.{happens}

module _ {K V : Type 0} (size : ℕ) where
  -- such rows leave entries blank,
  rows_zeros : (i : ℕ) (events : List (Event (Node K V))) → AreItsRows i events → (w w2 : World (Node K V)) → Reached deferred_word size w → Runs deferred_word size events w w2 → AllZero w → AllZero w2
  rows_zeros i [] its w w2 r runs zeros = subst (λ (z : World (Node K V)). AllZero z) (sym runs) zeros
  rows_zeros i (Begin j request ∷ events) its w w2 r (v, happens, runs) zeros =
      rows_zeros i events its.2 v w2 (happens_reached deferred_word size (Begin j request) w v r happens) runs (begin_zeros deferred_word w r j v request happens.1 zeros)
  rows_zeros i (Step j ∷ events) its w w2 r (v, happens, runs) zeros =
      rows_zeros i events its.1 v w2 (happens_reached deferred_word size (Step j) w v r happens) runs (step_zeros deferred_word w r j v happens zeros)
  rows_zeros i (_ ∷ events) its w w2 r runs zeros = absurd its

  -- and so does what is done to blocks that are left over, and to roots
  left_zeros : (i b : ℕ) (w w2 : World (Node K V)) → Reached deferred_word size w → Runs deferred_word size (events_of i (TakesLeft b)) w w2 → AllZero w → AllZero w2
  left_zeros i b w w2 r (v, happens, runs) zeros = subst (λ (z : World (Node K V)). AllZero z) (sym runs) (event_zeros deferred_word w v r zeros (Clears i b) tt happens)

  root_zeros : (i : ℕ) (at : At) (word : ℕ) (w w2 : World (Node K V)) → Reached deferred_word size w → Runs deferred_word size (events_of i (WritesRoot at word)) w w2 → AllZero w → AllZero w2
  root_zeros i at word w w2 r (v, happens, runs) zeros = subst (λ (z : World (Node K V)). AllZero z) (sym runs) (event_zeros deferred_word w v r zeros (Operates (Store at word)) tt happens)

-- a block that is noted as something was so before what one of a row tells
row_back : (known : Known) (x : Changed) → TellsRow x → (b : ℕ) (r : Role) → (r ≡ role.Free → ⊥) → (known_after Row x known).roles b ≡ r → known.roles b ≡ r
row_back known changed.Nothing tells b r some is = is
row_back known (changed.Wrote (Slot t field) was now) tells b r some is = is
row_back known (changed.Wrote (Entry c field) was now) tells b r some is = is
row_back known (changed.Wrote (Root root) was now) tells b r some is = absurd tells
row_back known (changed.Wrote (Used root) was now) tells b r some is = absurd tells
row_back known (changed.Wrote (Word c field) was now) tells b r some is = absurd tells
row_back known (changed.Made kind c) tells b r some is = absurd tells
row_back known (changed.Unmade kind) tells b r some is = absurd tells
row_back known (changed.Took c) tells b r some is = elim (cases_eq b c) as (λ _. known.roles b ≡ r) [
  | inl e ↦ absurd (some (sym is ∙ put_here c role.Free known.roles b e))
  | inr ne ↦ sym (put_elsewhere c role.Free known.roles b ne) ∙ is
]
row_back known (changed.Roomed bucket had) tells b r some is = sym (ap (λ (f : ℕ → Role). f b) (roomed_as_many Row known bucket had).0) ∙ is

module _ {K V : Type 0} (same : K → K → Bool) (hash : ℕ → K → ℕ) (name : ℕ → List ℕ) (m : Moment K V) (known : Known) (s : Scene K V) (whole : RefinesWhole same name m known s)
    (kept : RefinesKept name m known s) (old new : Held K V) (i : ℕ) (lists : ℕ → List ℕ) (before after : ReclaimAll) (told : Settled (Node K V)) (at : IsReclaiming same hash old s i lists before)
    (leads : ReclaimingLeads same hash s i lists old new before after told) where
  abbrev effects : List Effect
  effects = effects_of Row known new.changed

  abbrev s2 : Scene K V
  s2 = record s { world = leads.1.w2; maps = leads.1.maps2 }

  no_table : NoTableLeft known s.world
  no_table = none_is_left K V known s kept.left at.under_way.stand.no_enders

  -- what it reclaims was retired
  pub reclaiming_found : ReclaimRetired effects m
  reclaiming_found = reclaiming_finds same hash name m known s whole kept.waiting kept.retired no_table old new i lists before after told at leads

  none_under_way : {X : Type 0} (map j : ℕ) (u : UnderWay K V K) → s.calls map j ≡ Some u → X
  none_under_way map j u here = absurd (no_call same hash name m known s whole old new i lists before after told at leads map j u here)

  -- what is in somebody's hands is blank still
  abbrev RunsBy : List (Event (Node K V)) → Type 0
  RunsBy events = Runs deferred_word old.batch_size events s.world leads.1.w2

  here : Reached deferred_word old.batch_size s.world
  here = reached same hash name m known s whole old new i lists before after told at leads

  zeros : AllZero s.world
  zeros b its = as_zero s.world.memory b (kept.entries.blank b its)

  zeros_then : AllZero leads.1.w2
  zeros_then = by leads.1.its
    where
      by : AreItsRows i leads.1.events ⊎ (((b : ℕ) × (leads.1.events ≡ events_of i (TakesLeft b)))
          ⊎ ((root : ℕ) × ((leads.1.events ≡ events_of i (WritesRoot (Root root) 0)) ⊎ (leads.1.events ≡ events_of i (WritesRoot (Used root) 0))))) → AllZero leads.1.w2
      by (inl rows) = rows_zeros old.batch_size i leads.1.events rows s.world leads.1.w2 here leads.1.runs zeros
      by (inr (inl (b, is))) = left_zeros old.batch_size i b s.world leads.1.w2 here (subst RunsBy is leads.1.runs) zeros
      by (inr (inr (root, inl is))) = root_zeros old.batch_size i (Root root) 0 s.world leads.1.w2 here (subst RunsBy is leads.1.runs) zeros
      by (inr (inr (root, inr is))) = root_zeros old.batch_size i (Used root) 0 s.world leads.1.w2 here (subst RunsBy is leads.1.runs) zeros

  -- a root that is emptied is no note
  root_back : (x : Changed) → EmptiesRoot x → (b : ℕ) (r : Role) → (known_after Row x known).roles b ≡ r → known.roles b ≡ r
  root_back (changed.Wrote (Root root) was now) empty b r is =
      let none = root_none same hash name m known s whole old new i lists before after told at leads (names_same was now) (named known was) (named known now) (block_in now)
      (nothing_there same hash name m known s whole old new i lists before after told at leads now empty) in
      sym (ap (λ (k : Known). k.roles b) none.1) ∙ is
  root_back (changed.Wrote (Used root) was now) empty b r is = is
  root_back _ empty b r is = absurd empty

  was_so : (b : ℕ) (r : Role) → (r ≡ role.Free → ⊥) → (known_after Row new.changed known).roles b ≡ r → known.roles b ≡ r
  was_so b r some is =
      elim (reclaiming_tells old.memory new.memory new.changed before before.stands (after, told) leads.0) as (λ _. known.roles b ≡ r) [
        | inl tells ↦ row_back known new.changed tells b r some is
        | inr empties ↦ root_back new.changed empties b r is
      ]

  pub reclaiming_keeps : RefinesKept name (with_effects None None effects m) (known_after Row new.changed known) s2
  reclaiming_keeps =
      let comes = reclaiming_comes same hash name m known s whole kept.waiting kept.once kept.retired kept.lying kept.order no_table old new i lists before after told at leads in
      record {
        entries = record { blank = λ b its. as_blank leads.1.w2.memory b (zeros_then b its); one = λ map j u is. none_under_way map j u is };
        made = record {
          has = λ map j u is c c_is. none_under_way map j u is;
          named = λ map j u is. none_under_way map j u is;
          whose = λ j b is. kept.made.whose j b (was_so b (role.OwnPair j) (λ e. cc e) is);
        };
        tables = record {
          tables = λ map j u is c c_is. none_under_way map j u is;
          whose = λ b turn shape is. kept.tables.whose b turn shape (was_so b (role.OwnTable turn shape) (λ e. cc e) is);
        };
        looking = λ map j u is c c_is looks. none_under_way map j u is;
        short = λ map j u is c c_is short. none_under_way map j u is;
        grown = λ map j u is c c_is other. none_under_way map j u is;
        counts = record { counts = λ map j u is c c_is. none_under_way map j u is };
        owed = record { owed = λ map j u is c c_is. none_under_way map j u is; noted = λ map j u is. none_under_way map j u is };
        handing = λ map j u is busy c c_is. none_under_way map j u is;
        waiting = comes.waits;
        once = comes.alone;
        lying = comes.lies;
        order = comes.ordered;
        retired = comes.had;
        left = where_none_is_left K V (known_after Row new.changed known) s2 comes.none_left;
        handed = reclaiming_handed same hash name m known s whole kept.waiting kept.handed no_table old new i lists before after told at leads;
        ends = maps_stay s kept.ends s2 (λ n st is. stood_so (s.maps n) (leads.1.maps2 n) (leads.1.as_they_were n) st is) refl;
      }
