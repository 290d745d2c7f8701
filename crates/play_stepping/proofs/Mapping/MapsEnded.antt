-- A map ends: where it is not there, or some call is on it, and where its end has run.
use Rattle.std.specs.Prelude.{◌≡◌, ◌≢◌, ◌+◌, ◌-◌, ◌==◌, ◌≤◌, ◌&&◌, ◌||◌, ◌⊎◌, ℕ, zero, suc, Bool, true, false, not, List, [], ◌∷◌, ◌++◌, length, filter, find, map, is_some, Option, Some, None, option_map}
use Rattle.std.specs.List.{All, AllByRecursion, list_any}
use Rattle.std.proofs.Common.{refl, ap, sym, subst, ◌∙◌, inl, inr, eqb-true}
use Rattle.std.proofs.lemmas.Bool.{cases_eq}
use Rattle.seize_words.specs.declared.fault.Fault.TheVariants.{Busy}
use Rattle.run_schedules.specs.Runs.Same.{is_same}
use Rattle.papaya_raw.specs.Given.TablesChunks.{is_incremental}
use Rattle.play_scheduler.specs.Given.RuleChart.{Chart}
use Rattle.run_schedules.specs.declared.ended.Pair.{Pair}
use Rattle.run_schedules.specs.declared.effect.Effect.{Effect}
use Rattle.run_schedules.specs.declared.effect.Effect.TheVariants.{Ended}
use Rattle.run_schedules.specs.declared.event.Event.TheVariants.{EndMap}
use Rattle.run_schedules.specs.declared.outcome.Outcome.TheVariants.{Done, Refused}
use Rattle.run_schedules.specs.Schedules.After.{if_any, is_alone_on, moment, remains_on, root_or}
use Rattle.run_schedules.specs.Schedules.Beginning.{used_roots}
use Rattle.run_schedules.specs.Schedules.Effects.{with_effect, with_effects}
use Rattle.run_schedules.specs.Schedules.Entry.{Entry, acted_on}
use Rattle.run_schedules.specs.Schedules.InTurn.{IsDone, is_called}
use Rattle.run_schedules.specs.Schedules.Lists.{is_among}
use Rattle.run_schedules.specs.Schedules.Moment.{MapThere, Remains, Moment}
use Rattle.run_schedules.specs.Schedules.Terms.{Terms}
use Rattle.run_schedules.specs.Schedules.Views.{map_at, map_of, number_of}
use Rattle.owner_whole.proofs.Given.CallersTogether.At.{at_other, at_same}
use Rattle.owner_whole.specs.Given.CallersTogether.{UnderWay}
use Rattle.run_executor.specs.Given.EffectsKnown.{known}
use Rattle.run_executor.specs.Given.EffectsDeclared.role.Role.TheVariants as role
use Rattle.run_executor.specs.declared.worker.Work.{Work}
use Rattle.papaya_raw.specs.declared.machines.end_map.EndMap.{EndMap as EndMachine}
use Rattle.owner_whole.specs.Given.FinishesMakings.{Beginning}
use Rattle.owner_whole.specs.Given.FinishesEndings.{Finishing, finishing_of}
use Rattle.owner_whole.specs.Given.FinishesMachines.{machine_of}
use Rattle.owner_whole.specs.Given.FinishesMaps.{Standing}
use Rattle.play_scheduler.proofs.Given.OthersQuiet.{calls_none}
use Rattle.play_scheduler.specs.Given.OthersEndings.{without_map}
use Rattle.run_executor.proofs.Given.MomentsAfter.{effects_after}
use Rattle.run_executor.proofs.Given.MomentsNumbers.{found_of}
use Rattle.run_executor.specs.Given.MomentsNumbers.{AreFound}
use Rattle.run_executor.specs.Given.MomentsWholeEnds.{all_ended, tables_ended}
use Rattle.owner_whole.specs.Given.FinishesOrders.{pairs_of}
use Rattle.play_scheduler.specs.Given.LoggedBack.{ComesBack, EndBringsBack}
use Rattle.play_scheduler.specs.Given.ReclaimsLeft.{IsSomebodys}
use Rattle.play_scheduler.specs.Given.ReclaimsReclaims.{RootLeads}
use Rattle.play_scheduler.specs.Given.RemainsRemains.{left_roots, map_roots}
use Rattle.play_scheduler.proofs.Given.RemainsLeads.{waits_lead}
use Rattle.play_scheduler.proofs.Given.RemainsLists.{among_append, found_among}
use Rattle.play_scheduler.proofs.Given.RemainsStays.{remains_stay, roots_stay, used_then}
use Rattle.play_scheduler.specs.Given.LoggedEnds.{EndCame, EndIsBegun, EndIsOver, EndRan, NotedStill}
use Rattle.run_sweeps.specs.Given.Ends.{ended_as}
use Rattle.play_scheduler.specs.Given.LoggedShown.{IsShown}
use Rattle.play_scheduler.specs.Given.ShedsWaits.{ReportsLeft, ReportsWaiting}
use Rattle.play_scheduler.specs.Given.LoggedDeclared.logged.Logged.{Logged}
use Rattle.play_scheduler.proofs.Given.RowsElsewhere.{elsewhere}
use Rattle.play_scheduler.proofs.Given.Lists.{all_but}
use Rattle.play_scheduler.proofs.Given.RowsLists.{all_so, any_alike, found_passes, one_of}
use Rattle.play_scheduler.specs.Mapping.{AreApart}
use Rattle.play_scheduler.specs.Played.{IsInTurn, IsUnderWay, Plays, RefinesFor}
use Rattle.run_executor.specs.Named.Seen.{named, named_of, number_named, seen, seen_of}
use Rattle.run_executor.specs.declared.named_map.NamedMap.{NamedMap}
use Rattle.play_scheduler.specs.declared.scheduler.Scheduler.{Scheduler}
use Rattle.play_stepping.proofs.Mapping.EndsLeave.{pairs_behind, waited_is}
use Rattle.play_stepping.proofs.Mapping.MapLists.{all_back, all_seen, by_recursion, found_same, kept_map, kept_of}
use Rattle.play_stepping.proofs.Mapping.Mapped.{stands_mapped}
use Rattle.play_scheduler.proofs.Maps.{map_some, number_is}
use Rattle.play_scheduler.proofs.Quiet.{stands_on}
use Rattle.play_scheduler.proofs.RanOn.{there_stays}
use Rattle.play_scheduler.proofs.Rights.{entry, in_turn, out_of_turn, plays, quiet}
use Rattle.run_executor.specs.Executing.Ending.{NoCallOn}
use Rattle.run_executor.specs.Executing.IsThere.{IsThere, ending_in}
use Rattle.play_scheduler.specs.Given.ScenesEnding.{ending_begun}
use Rattle.play_scheduler.specs.Given.ScenesScene.{IsEnding, Scene}
use Rattle.seize_words.proofs.General.{both_true}

-- what ends with a map is nothing to which maps are there
module _ {K V : Type 0} (acted : Option ℕ) where
  pairs_ended : (number : ℕ → ℕ) (xs : List ℕ) (m : Moment K V) → (with_effects None acted (map (λ n. Ended (number n)) xs) m).maps ≡ m.maps
  pairs_ended number [] m = refl
  pairs_ended number (n ∷ xs) m = pairs_ended number xs (with_effect None acted (Ended (number n)) m)

  tables_gone : (of t : ℕ) (more : ℕ) (m : Moment K V) → (with_effects None acted (tables_ended of t more) m).maps ≡ m.maps
  tables_gone of t zero m = refl
  tables_gone of t (suc more) m = tables_gone of (suc t) more _

  maps_stay : (incremental : Bool) (of : ℕ) (number : ℕ → ℕ) (c : Chart K) (m : Moment K V) → (with_effects None acted (all_ended incremental of number c) m).maps ≡ m.maps
  maps_stay incremental of number c m =
      let pairs : List Effect = map (λ n. Ended (number n)) (pairs_of incremental c) in
      let tables : List Effect = tables_ended of c.first (c.past - c.first) in
      ap (λ (x : Moment K V). x.maps) (effects_after None acted pairs tables m) ∙ tables_gone of c.first (c.past - c.first) (with_effects None acted pairs m) ∙ pairs_ended number (pairs_of incremental c) m

module _ {K V S : Type 0} (same : K → K → Bool) (hash : K → ℕ) (terms : Terms) (log : List (Entry K V)) (p : Scheduler K V S) (own : List ℕ) (due : IsInTurn same hash terms log (EndMap own) p) where
  abbrev m : Moment K V
  m = moment log

  abbrev stands : RefinesFor same hash terms m p
  stands = due.played

  abbrev s : Scene K V
  s = stands.scene

  abbrev turn : Bool
  turn = is_some (map_of own m) && not (is_called (number_of own m) m)

  busy : turn ≡ false → Plays same hash terms log (quiet (EndMap own) (Refused Busy)) p
  busy out =
      let e = quiet (EndMap own) (Refused Busy) in
      plays same hash terms log (EndMap own) p due e refl (out_of_turn IsDone turn (Refused Busy) out refl)
      (stands_on same hash terms m p stands (m.events + 1) (m.is_alone && is_alone_on e m) m.slots m.sheltered)

  -- it is not there
  pub not_there : number_named own p.maps ≡ None → Plays same hash terms log (quiet (EndMap own) (Refused Busy)) p
  not_there none = busy (ap (λ (q : Bool). q && not (is_called (number_of own m) m)) (map_some same hash terms m p stands own ∙ ap is_some none))

  module _ (number : ℕ) (found : number_named own p.maps ≡ Some number) where
    called_is : is_called (number_of own m) m ≡ list_any (λ d. d.map == number) p.calls
    called_is =
        ap (λ (o : Option ℕ). is_called o m) (number_is same hash terms m p stands own ∙ found)
        ∙ any_alike seen seen_of m.calls p.calls stands.calls.listed (λ z. z.map == number)

    there_is : is_some (map_of own m) ≡ true
    there_is = map_some same hash terms m p stands own ∙ ap is_some found

    -- a call is on it
    pub has_calls : list_any (λ d. d.map == number) p.calls ≡ true → Plays same hash terms log (quiet (EndMap own) (Refused Busy)) p
    has_calls some = busy (ap (λ (q : Bool). q && not (is_called (number_of own m) m)) there_is ∙ ap not (called_is ∙ some))

    module _ (none : list_any (λ d. d.map == number) p.calls ≡ false) where
      in_its_turn : turn ≡ true
      in_its_turn = ap (λ (q : Bool). q && not (is_called (number_of own m) m)) there_is ∙ ap not (called_is ∙ none)

      apart : AllByRecursion (λ d. (d.map == number) ≡ false) p.calls
      apart =
          all_but (λ d. Unit {0}) (λ d. (d.map == number) ≡ false) (λ d. d.map == number) (λ d e it. e) p.calls none
          (all_so (IsUnderWay stands.name s p.there) (λ d. Unit {0}) (λ d way. tt) p.calls stands.calls.each)

      no_call_there : (j : ℕ) (o : Option (UnderWay K V K)) → s.calls number j ≡ o → s.calls number j ≡ None
      no_call_there j None e = e
      no_call_there j (Some u) e =
          let d = one_of (λ d. (d.map == number) ≡ false) (λ d. (d.map == number) && (d.number == j)) p.calls (stands.calls.only number j u e) apart in
          absurd (let one = (both_true (d.0.map == number) (d.0.number == j) d.2).0 in let none = d.1 in cc (one, none))

      pub no_call : NoCallOn p.logged.executor number
      no_call j = sym (stands.shown.is_at.calls number j) ∙ ap (option_map machine_of) (no_call_there j (s.calls number j) refl)

      module _ (mid : Logged K V S) (i : ℕ) (begun : EndIsBegun same hash stands.name m s number i p.logged mid) where
        abbrev standing : Standing K
        standing = (begun no_call).0

        abbrev s1 : Scene K V
        s1 = ending_begun number i standing s

        abbrev f : Finishing K V
        f = finishing_of standing s.world

        pub here : s1.enders i ≡ Some f
        here = at_same s.enders i (Some f) i refl

        pub shown_mid : IsShown same hash stands.name m mid s1
        shown_mid = (begun no_call).4

        pub may_run : (t : Scene K V) × IsThere same hash mid.executor t × IsEnding t i
        may_run = (s1, shown_mid.is_at, (f, here))

        -- what the end reclaims comes back
        pub end_came : (before after : List Effect) → before ≡ [] → (b0 b1 : List (Pair K V)) → EndBringsBack i number before after mid b0 b1 → ComesBack m.stored after b0 b1
        end_came before after none_before b0 b1 it =
            subst (λ (xs : List Effect). ComesBack m.stored xs b0 b1) (sym (it.1 ∙ ap (λ (xs : List Effect). xs ++ it.0) none_before))
            (it.2 same hash stands.name m s1 shown_mid f here (at_same s.maps number None number refl) (begun no_call).3.0 (known mid.notes) (begun no_call).3.1 (λ b t. refl))

        module _ (new : Logged K V S) (before after : List Effect) (empty : before ≡ []) (ran : EndRan i number true before after mid new) (over : EndIsOver new) (are : AreApart m) where
          did_is : after ≡ ran.0
          did_is = ran.1 ∙ ap (λ (xs : List Effect). xs ++ ran.0) empty

          acts_on : acted_on {K = K} {V = V} (EndMap own) m ≡ Some number
          acts_on = number_is same hash terms m p stands own ∙ found

          abbrev v : Moment K V
          v = with_effects None (Some number) ran.0 m

          abbrev number_by : ℕ → ℕ
          number_by = (begun no_call).3.0

          abbrev u : (t : Scene K V) × (gone : List ℕ) × (came : EndCame s1 t i f gone true) × (ran.0 ≡ ended_as number (known mid.notes) gone) × NotedStill (known mid.notes) (known new.notes) (f.back ++ gone)
              × IsShown same hash stands.name v new t × (true ≡ true → f.back ≡ [] → ran.0 ≡ all_ended (is_incremental f.setting.mode) number number_by f.chart)
              × ((began : Moment K V) → ReportsWaiting same number i f began m (known mid.notes) s1.world → ReportsLeft number f.chart began (known new.notes) came.ender.2.0)
          u = ran.3 same hash stands.name m s1 shown_mid f here (at_same s.maps number None number refl) number_by (known mid.notes) (begun no_call).3.1 (λ b t. refl)

          abbrev s2 : Scene K V
          s2 = u.0

          same_maps : v.maps ≡ m.maps
          same_maps =
              ap (λ (xs : List Effect). (with_effects None (Some number) xs m).maps) (u.6 refl refl) ∙ maps_stay (Some number) (is_incremental standing.setting.mode) number number_by standing.chart m

          abbrev Found : List MapThere → Type 0
          Found ms = All (λ there. find (λ f. f.number == there.number) ms ≡ Some there) ms

          found_then : AreFound v
          found_then = subst Found (sym same_maps) are.numbers.found

          -- the map of the name is the one of the number
          named_map : (o : Option MapThere) → map_of own m ≡ o → (f0 : MapThere) × (map_of own m ≡ Some f0) × (f0.number ≡ number)
          named_map None e = absurd (let h = sym (ap (option_map (λ (f : MapThere). f.number)) e) ∙ acts_on in cc h)
          named_map (Some f0) e = (f0, e, (let h = sym (ap (option_map (λ (f : MapThere). f.number)) e) ∙ acts_on in cc h))

          abbrev its : (f0 : MapThere) × (map_of own m ≡ Some f0) × (f0.number ≡ number)
          its = named_map (map_of own m) refl

          found_its : map_at its.0.number m ≡ Some its.0
          found_its = (found_of (λ there. map_at there.number m ≡ Some there) (λ f. is_same f.name own) m.maps its.0 are.numbers.found its.1).1

          abbrev IsApart : (List ℕ × ℕ) → Type 0
          IsApart z = z.1 ≡ number → is_same z.0 own ≡ true

          one_named : (f : MapThere) → map_at f.number m ≡ Some f → IsApart (named f)
          one_named f is e =
              let same_number : its.0.number ≡ f.number = its.2 ∙ sym e in
              let both : Some its.0 ≡ Some f = sym found_its ∙ ap (λ (n : ℕ). map_at n m) same_number ∙ is in
              let one : its.0 ≡ f = cc both in
              sym (ap (λ (x : MapThere). is_same x.name own) one) ∙ found_passes (λ f. is_same f.name own) m.maps its.0 its.1

          all_apart : AllByRecursion (λ t. IsApart (named_of t)) p.maps
          all_apart =
              all_back named_of IsApart p.maps
              (subst (AllByRecursion IsApart) stands.maps.listed
              (all_seen named IsApart m.maps (all_so (λ f. map_at f.number m ≡ Some f) (λ f. IsApart (named f)) one_named m.maps (by_recursion (λ f. map_at f.number m ≡ Some f) m.maps are.numbers.found))))

          others_stand : (n : ℕ) (o : Option (Standing K)) → n ≢ number → s.maps n ≡ o → s2.maps n ≡ o
          others_stand n o ne e = ap (λ (g : ℕ → Option (Standing K)). g n) u.2.maps ∙ at_other s.maps number None n ne ∙ e

          -- none that stands has the name
          pub no_other : (n : ℕ) (st : Standing K) (there : MapThere) → s2.maps n ≡ Some st → map_at n v ≡ Some there → is_same there.name own ≡ false
          no_other n st there stands_there is = by (is_same there.name own) refl
            where
              is_m : map_at n m ≡ Some there
              is_m = sym (ap (λ (ms : List MapThere). find (λ f. f.number == n) ms) same_maps) ∙ is

              its_number : there.number ≡ n
              its_number = eqb-true there.number n (found_passes (λ f. f.number == n) m.maps there is_m)

              by : (q : Bool) → is_same there.name own ≡ q → is_same there.name own ≡ false
              by false e = e
              by true e =
                  let one : its.0 ≡ there = found_same (λ f. is_same f.name own) (λ f. f.number == n) m.maps its.0 there (are.names own) its.1 is_m e in
                  let number_is_n : number ≡ n = sym its.2 ∙ ap (λ (x : MapThere). x.number) one ∙ its_number in
                  let gone = ap (λ (g : ℕ → Option (Standing K)). g n) u.2.maps ∙ at_same s.maps number None n (sym number_is_n) in
                  absurd (cc (gone, stands_there))

          abbrev left : List Remains
          left = remains_on {K = K} {V = V} (EndMap own) Done after m

          abbrev w : Moment K V
          w = without_map own left v

          abbrev keeps : (List ℕ × ℕ) → Bool
          keeps z = not (is_same z.0 own)

          enders_then : (j : ℕ) → s.enders j ≡ None → s2.enders j ≡ None
          enders_then j none_there = by (cases_eq j i)
            where
              by : (j ≡ i) ⊎ (j ≢ i) → s2.enders j ≡ None
              by (inl e) = ap s2.enders e ∙ u.2.ender.0
              by (inr ne) = u.2.enders j ne ∙ at_other s.enders i (Some f) j ne ∙ none_there

          -- nobody ended a map, and nobody does then
          nobody_ends : (j : ℕ) → s.enders j ≡ None
          nobody_ends j = by (s.enders j) refl
            where
              by : (o : Option (Finishing K V)) → s.enders j ≡ o → s.enders j ≡ None
              by None e = e
              by (Some g) e =
                  let idle = stands.rests j (stands.shown.is_at.held.together.alone j g e).0 in
                  absurd (let one : ◌≡◌ {A = Option EndMachine} (Some g.machine) None =
                  sym (ap (option_map (λ (x : Finishing K V). x.machine)) e) ∙ stands.shown.is_at.enders j ∙ ap (λ (o : Option (Work K V)). ending_in o) idle in cc one)

          nobody_then : (j : ℕ) → s2.enders j ≡ None
          nobody_then j = enders_then j (nobody_ends j)

          -- its root is nobody's then, so what its end has left over is behind that
          abbrev pairs : List ℕ
          pairs = pairs_behind m.deferred after

          its_root : its.0.root ≡ f.setting.root
          its_root =
              let t = (stands.shown.shows.all.shown.maps number standing (begun no_call).1).there in
              let both : Some its.0 ≡ Some t.there = sym found_its ∙ ap (λ (n : ℕ). map_at n m) its.2 ∙ t.is in
              let one : its.0 ≡ t.there = cc both in
              ap (λ (x : MapThere). x.root) one ∙ t.root

          is_used : is_among its.0.root (used_roots v) ≡ true
          is_used =
              ap (is_among its.0.root) (used_then m v (roots_stay None (Some number) ran.0 m) (remains_stay None (Some number) ran.0 m))
              ∙ among_append its.0.root (map_roots m) (left_roots m)
              ∙ ap (λ (q : Bool). q || is_among its.0.root (left_roots m)) (found_among (λ f. is_same f.name own) (λ f. f.root) m.maps its.0 its.1)

          abbrev lists : ℕ → List ℕ
          lists = u.5.counted.remains.lists

          leads : RootLeads s2.world its.0.root (lists its.0.root)
          leads = elim (u.5.counted.remains.left.root its.0.root (u.5.counted.remains.below its.0.root is_used)) as (λ _. RootLeads s2.world its.0.root (lists its.0.root)) [
            | inl somebody ↦ absurd (nobodys somebody)
            | inr it ↦ it
          ]
            where
              nobodys : IsSomebodys s2.maps s2.makers s2.enders its.0.root → ⊥
              nobodys (inl (n, st, stands_there, is)) =
                  shown_mid.is_at.held.together.roots_apart i n f st here (sym (ap (λ (g : ℕ → Option (Standing K)). g n) u.2.maps) ∙ stands_there) (sym its_root ∙ sym is)
              nobodys (inr (inl (j, b, makes, taken, is))) =
                  shown_mid.is_at.held.together.makings_roots i j f b here (sym (ap (λ (g : ℕ → Option (Beginning K)). g j) u.2.makers) ∙ makes) taken (sym its_root ∙ sym is)
              nobodys (inr (inr (j, g, ends, is))) = (let none = nobody_then j in cc (none, ends))

          noted_is : map (known new.notes).roles (lists its.0.root) ≡ map role.Pair pairs
          noted_is =
              ap (λ (bs : List ℕ). map (known new.notes).roles bs)
              (waits_lead f.setting s2.world u.2.ender.2.0 (lists its.0.root) u.2.ender.2.1 (subst (λ (r : ℕ). RootLeads s2.world r (lists its.0.root)) its_root leads))
              ∙ u.7 m (begun no_call).5
              ∙ ap (λ (ns : List ℕ). map role.Pair ns) (waited_is (is_incremental f.setting.mode) number number_by f.chart m.deferred)
              ∙ ap (λ (xs : List Effect). map role.Pair (pairs_behind m.deferred xs)) (sym (did_is ∙ u.6 refl refl))

          named_then : map_of own v ≡ Some its.0
          named_then = ap (λ (ms : List MapThere). find (λ f. is_same f.name own) ms) same_maps ∙ its.1

          left_is : if_any its.0.root pairs v.remains ≡ left
          left_is = ap (if_any its.0.root pairs) (remains_stay None (Some number) ran.0 m) ∙ ap (λ (o : Option MapThere). if_any (root_or o) pairs m.remains) (sym its.1)

          shown_then : IsShown same hash stands.name w new s2
          shown_then =
              subst (λ (xs : List Remains). IsShown same hash stands.name (without_map own xs v) new s2) left_is
              (over same hash stands.name v s2 u.5 own its.0 named_then (subst (λ (ms : List MapThere). length (filter (λ f. is_same f.name own) ms) ≤ 1) (sym same_maps) (are.names own)) nobody_then pairs noted_is
              found_then no_other)

          abbrev e : Entry K V
          e = entry (EndMap own) Done 0 after

          -- the moment after it, by what its effects are told of
          abbrev Then : Option ℕ → List Effect → Moment K V
          Then acted did =
              let x = with_effects None acted did m in
              elsewhere (m.events + 1) m.is_mapped m.is_closed (m.is_alone && is_alone_on e m) x.there m.slots x.sheltered left (without_map own left x)

          pub ended : (p2 : Scheduler K V S) → p2 ≡ record p { logged = new; maps = p2.maps; is_mapped = p2.is_mapped } → p2.is_mapped ≡ p.is_mapped
              → p2.maps ≡ filter (λ t. not (is_same t.name own)) p.maps → Plays same hash terms log (entry (EndMap own) Done 0 after) p2
          ended p2 is mapped kept =
              plays same hash terms log (EndMap own) p2 due e refl (in_turn IsDone turn Done in_its_turn refl)
              (subst (λ (x : Option ℕ). RefinesFor same hash terms (Then x after) p2) (sym acts_on)
              (subst (λ (xs : List Effect). RefinesFor same hash terms (Then (Some number) xs) p2) (sym did_is)
              (stands_mapped same hash terms m p stands new w s2 shown_then u.2.calls u.2.rows u.2.uses (λ j none_there. ap (λ (g : ℕ → Option (Beginning K)). g j) u.2.makers ∙ none_there) enders_then
              (calls_none (Some number) ran.0 m) p2 is m.is_mapped (stands.mapped ∙ sym mapped)
              (kept_map named keeps v.maps ∙ ap (λ (ms : List MapThere). filter keeps (map named ms)) same_maps ∙ ap (filter keeps) stands.maps.listed ∙ sym (kept_map named_of keeps p.maps)
              ∙ ap (map named_of) (sym kept))
              (subst (AllByRecursion (λ t. (standing : Standing K) × (s2.maps t.number ≡ Some standing))) (sym kept)
              (kept_of (λ t. (standing : Standing K) × (s.maps t.number ≡ Some standing)) (λ t. IsApart (named_of t)) (λ t. (standing : Standing K) × (s2.maps t.number ≡ Some standing))
              (λ t. not (is_same t.name own)) stands_still p.maps stands.maps.stand all_apart))
              v.there (there_stays None (Some number) ran.0 m ∙ stands.there) (m.events + 1) (m.is_alone && is_alone_on e m) m.slots v.sheltered left refl)))
            where
              stands_still : (t : NamedMap) → not (is_same t.name own) ≡ true → ((standing : Standing K) × (s.maps t.number ≡ Some standing)) → IsApart (named_of t)
                  → (standing : Standing K) × (s2.maps t.number ≡ Some standing)
              stands_still t keep st its_name =
                  (st.0, others_stand t.number (Some st.0) (λ same_one. (let yes = its_name same_one in cc (yes, keep))) st.1)
