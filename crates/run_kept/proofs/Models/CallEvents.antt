-- An event of a call, whole: from step to step, and its end.
use Rattle.std.specs.Prelude.{◌≢◌, flat_map, Some}
use Rattle.std.proofs.Common.{◌≡◌, ℕ, Bool, List, [], ◌∷◌, ◌++◌, ◌⊎◌, inl, inr, refl, ap, sym, subst, append_assoc, ◌∙◌}
use Rattle.std.proofs.lemmas.List.{append-nil}
use Rattle.std.proofs.lemmas.List.Concat.{flat_map-append, flat_map-cons}
use Rattle.seize.specs.Sequence.{changes}
use Rattle.seize.specs.WaitingSets.{Change, Retires, Defers, Sets, After, all_changed}
use Rattle.seize.specs.World.{World, Row, Rests, Request, Register', Enter', Leave', LeaveOwned, Refresh, Unregister', Retire, Flush, Defer', Begin, Step, Steps', Happens}
use Rattle.run_executor.proofs.Given.SeizeSetsTurns.Append.{changed_append}
use Rattle.papaya_raw.specs.declared.machines.progress.Progress.{Progress}
use Rattle.papaya_raw.specs.Given.TablesNodes.{deferred_word}
use Rattle.papaya_raw.specs.Given.TablesDeclared.node.Node.{Node}
use Rattle.run_executor.specs.Given.CallersTogether.{UnderWay, HandsOver}
use Rattle.run_executor.specs.Given.EffectsEffects.{effects_of, known_after}
use Rattle.run_executor.specs.Given.EffectsKnown.{Known}
use Rattle.run_executor.specs.Given.EffectsDeclared.acting.Acting.TheVariants.{Call}
use Rattle.run_executor.proofs.Given.FollowsOnward.{IsLasting, KeepsRoles}
use Rattle.run_executor.specs.Given.MomentsWhole.{RefinesWhole}
use Rattle.run_schedules.specs.Schedules.After.{moment}
use Rattle.run_schedules.specs.Schedules.Beginning.{at_work}
use Rattle.run_schedules.specs.Schedules.Model.{came, thing_back, number_in, handing, things_in, changes_by, left_last}
use Rattle.run_schedules.specs.Schedules.Moment.{Moment}
use Rattle.run_schedules.specs.declared.effect.Effect.{Effect}
use Rattle.run_schedules.specs.declared.effect.Effect.TheVariants as effect
use Rattle.run_schedules.specs.declared.effect.Thing.{Thing}
use Rattle.run_schedules.specs.declared.event.Event.{Event}
use Rattle.run_schedules.specs.declared.event.Event.TheVariants as event
use Rattle.run_schedules.specs.declared.outcome.Outcome.{Outcome}
use Rattle.run_schedules.specs.declared.effect.Thing.TheVariants.{APair, ATable}
use Rattle.run_kept.specs.Models.Alike.{ChangesAlike}
use Rattle.run_kept.specs.Models.CallEvents.{IsNoted, HasReportedPart, things_then, IsInItsRow, FollowsInEvent, CallEventsBegin, CallEventsContinue, CallEventsPause, IsOfNoSlot, slot_of_call, OthersHandOver}
use Rattle.run_kept.specs.Models.Calls.{sets_on, FollowsInCall, EndsNone, EndNone}
use Rattle.run_kept.specs.Models.Defers.{AreNoted, HasReportedDefer}
use Rattle.run_kept.specs.Models.Follows.{FollowsSets}
use Rattle.run_kept.specs.Models.Numbers.{HasNumber, EachIsOnce, IsOfThings, AreOfThings, NotBack, NoneBack}
use Rattle.run_kept.specs.Models.Retires.{HasReportedRetire}
use Rattle.run_kept.proofs.Models.Calls.{OneStep, one_step, no_or, no_row_rests, call_follows, row_begun, row_goes_on, own_keeps, row_keeps, kept_numbers, more_numbers, more_things_follow, rows_within_end}
use Rattle.run_kept.proofs.Models.Defers as defers
use Rattle.run_kept.proofs.Models.Defers.{defers_are_told}
use Rattle.run_kept.proofs.Models.Follows.{sets_then}
use Rattle.run_kept.proofs.Models.Handing.{keeps_all, keep_of}
use Rattle.run_kept.proofs.Models.HandsOver as retires
use Rattle.run_kept.proofs.Models.HandsOver.{No, retires_are_told}
use Rattle.run_kept.proofs.Models.Numbers.{still_in, same_number}
use Rattle.run_kept.proofs.Models.Quiet.{handing_is_by_model}
use Rattle.run_kept.proofs.Models.Told.{none_back}
use Rattle.run_kept.proofs.Models.Turns.{rested}
use Rattle.run_executor.specs.Given.ScenesHeld.{Held, IsAt}
use Rattle.run_executor.specs.Given.ScenesScene.{Scene}
use Rattle.run_executor.specs.Given.ScenesStepping.{StepLeads}

-- Further things change no number of what is handed over.

module _ (things more : List Thing) where
  of_more : (effects : List Effect) → AreOfThings things effects → AreOfThings (things ++ more) effects
  of_more [] all = tt
  of_more (e ∷ effects) all = (by e all.0, of_more effects all.1)
    where
      by : (e : Effect) → IsOfThings things e → IsOfThings (things ++ more) e
      by (effect.Retired x) is = still_in more things x is
      by (effect.Deferred n t) is = (still_in more things (APair n) is.0, still_in more things (ATable t) is.1)
      by (effect.Taken t) is = is
      by _ is = tt

  handed_same : (slot : ℕ) (effects : List Effect) → AreOfThings things effects → flat_map (handing (things ++ more) slot) effects ≡ flat_map (handing things slot) effects
  handed_same slot [] all = refl
  handed_same slot (e ∷ effects) all =
      flat_map-cons (handing (things ++ more) slot) e effects ∙ ap (λ (cs : List Change). cs ++ flat_map (handing (things ++ more) slot) effects) (by e all.0)
      ∙ ap (λ (cs : List Change). handing things slot e ++ cs) (handed_same slot effects all.1) ∙ sym (flat_map-cons (handing things slot) e effects)
    where
      by : (e : Effect) → IsOfThings things e → handing (things ++ more) slot e ≡ handing things slot e
      by (effect.Retired x) is = ap (λ (k : ℕ). Retires slot k ∷ []) (same_number more things x is)
      by (effect.Deferred n t) is =
          ap (λ (k : ℕ). Defers k (number_in (things ++ more) (ATable t)) ∷ []) (same_number more things (APair n) is.0)
          ∙ ap (λ (k : ℕ). Defers (number_in things (APair n)) k ∷ []) (same_number more things (ATable t) is.1)
      by (effect.Taken t) is = absurd is
      by _ is = refl

of_both : (things : List Thing) (done effects : List Effect) → AreOfThings things done → AreOfThings things effects → AreOfThings things (done ++ effects)
of_both things [] effects a b = b
of_both things (e ∷ done) effects a b = (a.0, of_both things done effects a.1 b)

-- all things, and the sets, once more was done
pub things_more : (things : List Thing) (done effects : List Effect) → things_then things (done ++ effects) ≡ things_then things done ++ flat_map came effects
things_more things done effects =
    ap (λ (xs : List Thing). things ++ xs) (flat_map-append came done effects) ∙ sym (append_assoc things (flat_map came done) (flat_map came effects))

sets_more : (batch_size : ℕ) (things more : List Thing) (slot : ℕ) (done effects : List Effect) (sets : Sets) → AreOfThings things done → AreOfThings things effects
    → sets_on batch_size (things ++ more) slot (done ++ effects) sets ≡ sets_on batch_size things slot effects (sets_on batch_size things slot done sets)
sets_more batch_size things more slot done effects sets a b =
    ap (λ (cs : List Change). (all_changed batch_size cs sets).sets)
    (handed_same things more slot (done ++ effects) (of_both things done effects a b) ∙ flat_map-append (handing things slot) done effects)
    ∙ ap (λ (x : After). x.sets) (changed_append batch_size (flat_map (handing things slot) done) (flat_map (handing things slot) effects) sets)

pub both_back : (xs ys : List Effect) → NoneBack xs → NoneBack ys → NoneBack (xs ++ ys)
both_back [] ys c d = d
both_back (x ∷ xs) ys c d = (c.0, both_back xs ys c.1 d)

pub nothing_back : (effects : List Effect) → NoneBack effects → flat_map thing_back effects ≡ []
nothing_back [] all = refl
nothing_back (e ∷ effects) all = flat_map-cons thing_back e effects ∙ ap (λ (xs : List Thing). xs ++ flat_map thing_back effects) (by e all.0) ∙ nothing_back effects all.1
  where
    by : (e : Effect) → NotBack e → thing_back e ≡ []
    by (effect.Reclaimed x) is = absurd is
    by _ is = refl

none_end : (things : List Thing) (effects : List Effect) → AreOfThings things effects → EndNone effects
none_end things [] all = tt
none_end things (e ∷ effects) all = (by e all.0, none_end things effects all.1)
  where
    by : (e : Effect) → IsOfThings things e → EndsNone e
    by (effect.Taken t) is = is
    by _ is = tt

rests_or : (r : Row) → (r ≡ Rests) ⊎ (r ≢ Rests)
rests_or Rests = inl refl
rests_or _ = inr (λ e. cc e)

-- what is noted is so with further things
module _ (known : Known) (things more : List Thing) (slot : ℕ) where
  noted_more : (b t : ℕ) → AreNoted things known b t → AreNoted (things ++ more) known b t
  noted_more b t noted = record {
    n = noted.n;
    len = noted.len;
    table = noted.table;
    pair_is = noted.pair_is;
    table_is = noted.table_is;
    pair_came = still_in more things (APair noted.n) noted.pair_came;
    table_came = still_in more things (ATable noted.table) noted.table_came;
  }

  one_more : (s b : ℕ) (handed : List Change) → ChangesAlike (HasNumber known things) (Retires s b ∷ []) handed → ChangesAlike (HasNumber known (things ++ more)) (Retires s b ∷ []) handed
  one_more s b [] h = absurd h
  one_more s b (d ∷ []) h = let it = h.0 in ((it.0, more_numbers known things more b it.0 it.1, it.2), tt)
  one_more s b (d ∷ e ∷ l) h = absurd h.1

  put_more : (b t : ℕ) (handed : List Change) → ChangesAlike (HasNumber known things) (Defers b t ∷ []) handed → ChangesAlike (HasNumber known (things ++ more)) (Defers b t ∷ []) handed
  put_more b t [] h = absurd h
  put_more b t (d ∷ []) h = let it = h.0 in ((it.0, it.1, more_numbers known things more b it.0 it.2, more_numbers known things more t it.1 it.3, it.4), tt)
  put_more b t (d ∷ e ∷ l) h = absurd h.1

  part_more : {K V : Type 0} (i : ℕ) (request : Request) (handed : List Change) (w : World (Node K V)) → HasReportedPart things known slot i request handed w → HasReportedPart (things ++ more) known slot i request handed w
  part_more i (Retire s b) handed w (same, (k, has), told) = (same, (k, more_numbers known things more b k has), by told)
    where
      by : HasReportedRetire things known i slot b handed w → HasReportedRetire (things ++ more) known i slot b handed w
      by (inl due) = inl due
      by (inr (past, alike)) = inr (past, one_more slot b handed alike)
  part_more i (Defer' s b t) handed w (noted, told) = (noted_more b t noted, by told)
    where
      by : HasReportedDefer things known i b t handed w → HasReportedDefer (things ++ more) known i b t handed w
      by (inl due) = inl due
      by (inr (past, alike)) = inr (past, put_more b t handed alike)
  part_more i (Register' enters) handed w told = absurd told
  part_more i (Enter' s) handed w told = absurd told
  part_more i (Leave' s) handed w told = absurd told
  part_more i (LeaveOwned s) handed w told = absurd told
  part_more i (Refresh s) handed w told = absurd told
  part_more i (Unregister' s) handed w told = absurd told
  part_more i (Flush s) handed w told = absurd told

-- what is noted is so still where things keep their blocks
still_noted : (known known2 : Known) (things : List Thing) → KeepsRoles known known2 → (b t : ℕ) → AreNoted things known b t → AreNoted things known2 b t
still_noted known known2 things keeps b t noted = record {
  n = noted.n;
  len = noted.len;
  table = noted.table;
  pair_is = keeps b (subst IsLasting (sym noted.pair_is) tt) ∙ noted.pair_is;
  table_is = keeps t (subst IsLasting (sym noted.table_is) tt) ∙ noted.table_is;
  pair_came = noted.pair_came;
  table_came = noted.table_came;
}

pub call_events_begin : (K V : Type 0) → CallEventsBegin K V
call_events_begin K V batch_size roots things sets known w follows slot i = record {
  come = tt;
  back = tt;
  so = inl (subst (λ (xs : List Thing). FollowsSets batch_size roots xs sets known w) (sym (append-nil things)) follows);
}

-- A step.

module _ {K V : Type 0} (same : K → K → Bool) (hash : ℕ → K → ℕ) (name : ℕ → List ℕ) (m : Moment K V) (known : Known) (s : Scene K V) (old new : Held K V) (at : IsAt same hash old s)
    (whole : RefinesWhole same name m known s) (map i : ℕ) (u : UnderWay K V K) (here : s.calls map i ≡ Some u) (told : Progress (Node K V)) (leads : StepLeads same hash i told s old new)
    (once : EachIsOnce (known_after (Call i map) new.changed known)) (roots : ℕ) (things : List Thing) (sets : Sets) (slot : ℕ) (done : List Effect)
    (f : FollowsInEvent old.batch_size roots things sets slot i done known s.world) where
  abbrev w2 : World (Node K V)
  w2 = (leads map u here).4.w2

  abbrev Its : Type 0
  Its = No same hash name m known s old new at whole map i u here told leads

  abbrev effects : List Effect
  effects = effects_of (Call i map) known new.changed

  abbrev known2 : Known
  known2 = known_after (Call i map) new.changed known

  abbrev now : List Thing
  now = things_then things done

  abbrev more : List Thing
  more = flat_map came effects

  abbrev sets_now : Sets
  sets_now = sets_on old.batch_size now slot done sets

  abbrev sets_next : Sets
  sets_next = sets_on old.batch_size now slot effects sets_now

  keeps : (Its → ⊥) → KeepsRoles known known2
  keeps other = row_keeps same hash name m known s old new at whole map i u here told leads other

  -- with what has come by the step
  together : KeepsRoles known known2 → AreOfThings now effects → FollowsSets old.batch_size roots (now ++ more) sets_next known2 w2 ⊎ IsInItsRow old.batch_size roots (now ++ more) sets_next slot i known2 w2
      → FollowsInEvent old.batch_size roots things sets slot i (done ++ effects) known2 w2
  together keep come so = record {
    back = both_back done effects f.back (none_back i map known new.changed keep);
    come =
        subst (λ (xs : List Thing). AreOfThings xs (done ++ effects)) (sym (things_more things done effects))
        (of_both (now ++ more) done effects (of_more now more done f.come) (of_more now more effects come));
    so =
        subst (λ (xs : List Thing). FollowsSets old.batch_size roots xs (sets_on old.batch_size xs slot (done ++ effects) sets) known2 w2
        ⊎ IsInItsRow old.batch_size roots xs (sets_on old.batch_size xs slot (done ++ effects) sets) slot i known2 w2) (sym (things_more things done effects))
        (subst (λ (x : Sets). FollowsSets old.batch_size roots (now ++ more) x known2 w2 ⊎ IsInItsRow old.batch_size roots (now ++ more) x slot i known2 w2)
        (sym (sets_more old.batch_size now more slot done effects sets f.come come)) so);
  }

  -- a step that is none of a row
  own_step : Its → FollowsSets old.batch_size roots now sets_now known s.world → FollowsInEvent old.batch_size roots things sets slot i (done ++ effects) known2 w2
  own_step own follows =
      together (own_keeps same hash name m known s old new at whole map i u here told leads own) (keep_of now effects (keeps_all same hash name m known s old new at whole.all.shown map i u here told leads own))
      (inl ((more_things_follow K V old.batch_size roots now more sets_next known2 w2).0 (call_follows same hash name m known s old new at whole map i u here told leads own roots now sets_now follows slot)))

  -- a row has taken a step, and goes on, or has ended
  after_row : (request : Request) (handed : List Change) → FollowsInCall old.batch_size roots now sets_next known2 i request handed w2 → HasReportedPart now known2 slot i request handed w2
      → FollowsSets old.batch_size roots (now ++ more) sets_next known2 w2 ⊎ IsInItsRow old.batch_size roots (now ++ more) sets_next slot i known2 w2
  after_row request handed follows part = by (rests_or (w2.row i))
    where
      alike : (request : Request) → HasReportedPart now known2 slot i request handed w2 → w2.row i ≡ Rests → (r : FollowsInCall old.batch_size roots now sets_next known2 i request handed w2)
          → ChangesAlike (HasNumber known2 now) (changes request r.began.uses w2.uses) handed
      alike (Retire s2 b) (is, has, so) rests r =
          subst (λ (x : ℕ). ChangesAlike (HasNumber known2 now) (Retires x b ∷ []) handed) (sym is) (retires_are_told K V now known2 i slot b handed w2 so rests r.began.uses w2.uses)
      alike (Defer' s2 b t) (noted, so) rests r = defers_are_told K V now known2 i s2 b t handed w2 so rests r.began.uses w2.uses
      alike (Register' enters) part rests r = absurd part
      alike (Enter' s2) part rests r = absurd part
      alike (Leave' s2) part rests r = absurd part
      alike (LeaveOwned s2) part rests r = absurd part
      alike (Refresh s2) part rests r = absurd part
      alike (Unregister' s2) part rests r = absurd part
      alike (Flush s2) part rests r = absurd part

      by : (w2.row i ≡ Rests) ⊎ (w2.row i ≢ Rests)
          → FollowsSets old.batch_size roots (now ++ more) sets_next known2 w2 ⊎ IsInItsRow old.batch_size roots (now ++ more) sets_next slot i known2 w2
      by (inl rests) =
          inl ((more_things_follow K V old.batch_size roots now more sets_next known2 w2).0
          (rows_within_end K V old.batch_size roots now sets_next known2 i request handed w2 at.small once follows rests (alike request part rests follows)))
      by (inr goes) = inr (record {
        goes = goes;
        request = request;
        handed = handed;
        follows = (more_things_follow K V old.batch_size roots now more sets_next known2 w2).1 i request handed follows;
        told = part_more known2 now more slot i request handed w2 part;
      })

  -- a row has begun
  begun_part : (other : Its → ⊥) (request : Request) (begun : World (Node K V)) → Happens deferred_word old.batch_size (Begin i request) s.world begun
      → Happens deferred_word old.batch_size (Step i) begun w2 → IsNoted now known slot request
      → HasReportedPart now known2 slot i request (flat_map (handing now slot) effects) w2 × AreOfThings now effects
  begun_part other (Retire s2 b) begun begins step (is, k, has) =
      let on = retires.begun_tells same hash name m known s old new at whole map i u here told leads other (Retire s2 b) begun begins step now slot b k (ap (λ (x : ℕ). Retire x b) is) has in
      ((is, (k, kept_numbers known known2 (keeps other) now b k has), on.0), on.1)
  begun_part other (Defer' s2 b t) begun begins step noted =
      let on = defers.begun_tells same hash name m known s old new at whole map i u here told leads other (Defer' s2 b t) begun begins step now s2 slot b t refl noted in
      ((still_noted known known2 now (keeps other) b t noted, on.0), on.1)
  begun_part other (Register' enters) begun begins step noted = absurd noted
  begun_part other (Enter' s2) begun begins step noted = absurd noted
  begun_part other (Leave' s2) begun begins step noted = absurd noted
  begun_part other (LeaveOwned s2) begun begins step noted = absurd noted
  begun_part other (Refresh s2) begun begins step noted = absurd noted
  begun_part other (Unregister' s2) begun begins step noted = absurd noted
  begun_part other (Flush s2) begun begins step noted = absurd noted

  -- and goes on
  next_part : (other : Its → ⊥) → s.world.row i ≢ Rests → (request : Request) (handed : List Change) → HasReportedPart now known slot i request handed s.world
      → HasReportedPart now known2 slot i request (handed ++ flat_map (handing now slot) effects) w2 × AreOfThings now effects
  next_part other goes (Retire s2 b) handed (is, (k, has), so) =
      let on = retires.goes_on same hash name m known s old new at whole map i u here told leads other goes now slot b k handed has so in
      ((is, (k, kept_numbers known known2 (keeps other) now b k has), on.0), on.1)
  next_part other goes (Defer' s2 b t) handed (noted, so) =
      let on = defers.goes_on same hash name m known s old new at whole map i u here told leads other goes now slot b t handed noted so in
      ((still_noted known known2 now (keeps other) b t noted, on.0), on.1)
  next_part other goes (Register' enters) handed part = absurd part
  next_part other goes (Enter' s2) handed part = absurd part
  next_part other goes (Leave' s2) handed part = absurd part
  next_part other goes (LeaveOwned s2) handed part = absurd part
  next_part other goes (Refresh s2) handed part = absurd part
  next_part other goes (Unregister' s2) handed part = absurd part
  next_part other goes (Flush s2) handed part = absurd part

  pub goes_on : ((request : Request) (begun : World (Node K V)) → HandsOver (leads map u here).0.setting i s.world request
      → Happens deferred_word old.batch_size (Begin i request) s.world begun → Happens deferred_word old.batch_size (Step i) begun w2
      → IsNoted now known slot request) → FollowsInEvent old.batch_size roots things sets slot i (done ++ effects) known2 w2
  goes_on noted = by (no_or same hash name m known s old new at whole map i u here told leads) f.so
    where
      begins : (Its → ⊥) → FollowsSets old.batch_size roots now sets_now known s.world → OneStep same hash name m known s old new at whole map i u here told leads w2
          → FollowsInEvent old.batch_size roots things sets slot i (done ++ effects) known2 w2
      begins other follows (inl step) =
          absurd (subst (λ (r : Row). Steps' deferred_word i r s.world w2) (rests_then follows) step)
        where
          rests_then : FollowsSets old.batch_size roots now sets_now known s.world → s.world.row i ≡ Rests
          rests_then follows = (rested deferred_word old.batch_size roots at.small s.world follows.before follows.came).rests i
      begins other follows (inr (request, begun, hands, begin, step)) =
          let part = begun_part other request begun begin step (noted request begun hands begin step) in
          together (keeps other) part.1
          (after_row request (flat_map (handing now slot) effects)
          (row_begun same hash name m known s old new at whole map i u here told leads other request begun begin step roots now sets_now follows slot) part.0)

      by : (Its ⊎ (Its → ⊥)) → FollowsSets old.batch_size roots now sets_now known s.world ⊎ IsInItsRow old.batch_size roots now sets_now slot i known s.world
          → FollowsInEvent old.batch_size roots things sets slot i (done ++ effects) known2 w2
      by (inl own) (inl follows) = own_step own follows
      by (inl own) (inr row) = absurd (row.goes (no_row_rests same hash name m known s old new at whole map i u here told leads own))
      by (inr other) (inl follows) = begins other follows (one_step same hash name m known s old new at whole map i u here told leads other)
      by (inr other) (inr row) =
          let part = next_part other row.goes row.request row.handed row.told in
          together (keeps other) part.1
          (after_row row.request (row.handed ++ flat_map (handing now slot) effects)
          (row_goes_on same hash name m known s old new at whole map i u here told leads other row.goes roots now sets_now row.request row.handed row.follows slot) part.0)

module _ (K V : Type 0) (same : K → K → Bool) (hash : ℕ → K → ℕ) where
  pub call_events_go_on : CallEventsContinue K V same hash
  call_events_go_on name m known s old new at whole map i u here told leads once roots things sets slot done f noted =
      goes_on same hash name m known s old new at whole map i u here told leads once roots things sets slot done f noted

-- Its end.

pub call_events_pause : (K V : Type 0) → CallEventsPause K V
call_events_pause K V terms log e slot i known w f are none_left active = (
  (handing_is_by_model K V terms log e slot are none_left (none_end (things_in (e ∷ log)) e.effects f.come) (nothing_back e.effects f.back) active).0,
  subst (λ (x : Sets). FollowsSets terms.batch_size terms.roots (things_in (e ∷ log)) x known w ⊎ IsInItsRow terms.batch_size terms.roots (things_in (e ∷ log)) x slot i known w)
      (sets_then terms log e (flat_map (handing (things_in (e ∷ log)) slot) e.effects) are) f.so,
)

pub others_hand_over : (K V : Type 0) → OthersHandOver K V
others_hand_over K V log e is = (by e.event e.outcome is, last e.event e.outcome is)
  where
    by : (v : Event K V) (o : Outcome V) → IsOfNoSlot v
        → changes_by (things_in (e ∷ log)) v o e.effects (at_work e (moment log)) ≡ flat_map (handing (things_in (e ∷ log)) (slot_of_call v (at_work e (moment log)))) e.effects
    by (event.Enter guard registration) o is = absurd is
    by (event.Own guard) o is = absurd is
    by (event.DropGuard guard) o is = absurd is
    by (event.Refresh guard) o is = absurd is
    by (event.Flush guard) o is = absurd is
    by event.ReclaimAll o is = absurd is
    by event.Close o is = absurd is
    by _ o is = refl

    last : (v : Event K V) (o : Outcome V) → IsOfNoSlot v → left_last v o (moment log) ≡ []
    last event.ReclaimAll o is = absurd is
    last event.Close o is = absurd is
    last _ o is = refl
