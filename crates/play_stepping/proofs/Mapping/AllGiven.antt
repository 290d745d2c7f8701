-- Everything is reclaimed, by event, or somebody is there still.
use Rattle.std.specs.Prelude.{◌≡◌, ◌+◌, ◌==◌, ◌&&◌, nat_lt, ℕ, suc, Bool, true, false, List, [], ◌∷◌, ◌++◌, length, map, Option, Some, None, IsSome, option_map}
use Rattle.std.specs.List.{AllByRecursion, list_any}
use Rattle.std.proofs.Common.{refl, ap, sym, subst, ◌∙◌, arith, eqb-true}
use Rattle.std.proofs.lemmas.Bool.{ne_eqb}
use Rattle.seize.specs.World.{Rests}
use Rattle.seize.specs.declared.states.TheConstants.{HEAD}
use Rattle.seize_words.specs.OneMemory.Mem.{word_at}
use Rattle.seize_words.specs.declared.at.At.TheVariants.{Slot}
use Rattle.seize_words.specs.declared.fault.Fault.TheVariants.{Busy}
use Rattle.run_schedules.specs.Runs.Present.{Present, all_forgotten, nobody}
use Rattle.run_schedules.specs.declared.effect.Effect.{Effect}
use Rattle.run_schedules.specs.declared.event.Event.TheVariants.{ReclaimAll, Close}
use Rattle.run_schedules.specs.declared.outcome.Outcome.TheVariants.{Done, Refused}
use Rattle.run_schedules.specs.Schedules.After.{is_alone_on, moment}
use Rattle.run_schedules.specs.Schedules.Effects.{with_effects}
use Rattle.run_schedules.specs.Schedules.Entry.{Entry}
use Rattle.run_schedules.specs.Schedules.InTurn.{IsDone}
use Rattle.run_schedules.specs.Schedules.InUse.{is_left}
use Rattle.run_schedules.specs.Schedules.Lists.{is_empty}
use Rattle.run_schedules.specs.Schedules.Moment.{UnderWay as CallThere, Moment}
use Rattle.run_schedules.specs.Schedules.Terms.{Terms}
use Rattle.owner_whole.specs.Given.CallersTogether.{UnderWay}
use Rattle.run_executor.specs.Given.EffectsKnown.{known}
use Rattle.papaya_raw.specs.Given.TablesNodes.{deferred_word}
use Rattle.play_scheduler.specs.Given.ScenesDeclared.row.SlotUse.TheVariants as used
use Rattle.owner_whole.specs.Given.FinishesEndings.{Finishing}
use Rattle.owner_whole.specs.Given.FinishesMakings.{Beginning}
use Rattle.owner_whole.specs.Given.FinishesMaps.{Standing}
use Rattle.play_scheduler.proofs.Given.OthersQuiet.{calls_none}
use Rattle.owner_whole.proofs.Given.SeizeQuietSlots.Stages.{never_taken}
use Rattle.run_executor.specs.ReclaimsAll.Reclaiming.{MayReclaim, NobodyHas}
use Rattle.play_scheduler.specs.Given.ReclaimsReclaims.{AllIsReclaimed}
use Rattle.play_scheduler.specs.Given.RemainsRemains.{RefinesRemains}
use Rattle.play_scheduler.proofs.Given.RemainsMaps.{reclaimed_remain}
use Rattle.play_scheduler.proofs.Given.RemainsStays.{roots_stay}
use Rattle.play_scheduler.specs.Given.LoggedReclaims.{AllIsShown, ReclaimRetired, ReclaimingCame, ReclaimingRan}
use Rattle.play_scheduler.specs.Given.LoggedDeclared.logged.Logged.{Logged}
use Rattle.play_scheduler.proofs.Given.RowsElsewhere.{elsewhere, kept_elsewhere, shown_elsewhere, numbered_elsewhere}
use Rattle.play_scheduler.proofs.Given.RowsFacts.{no_ending_of, no_making_of, no_work_at, row_rests, used_once}
use Rattle.play_scheduler.proofs.Given.RowsLists.{all_so}
use Rattle.play_scheduler.proofs.Given.RowsNames.{nobody_named}
use Rattle.play_scheduler.specs.Played.{IsInTurn, IsUnderWay, Plays, RefinesFor}
use Rattle.play_scheduler.specs.Reclaiming.{MayGiveAll, are_gone}
use Rattle.run_executor.specs.Named.Seen.{named, named_of, seen, seen_of}
use Rattle.run_executor.specs.declared.caller.NamedCaller.{NamedCaller}
use Rattle.run_executor.specs.declared.named_map.NamedMap.{NamedMap}
use Rattle.play_scheduler.specs.declared.scheduler.Scheduler.{Scheduler}
use Rattle.play_scheduler.proofs.Quiet.{stands_on}
use Rattle.play_scheduler.proofs.RanOn.{maps_named, some_setting}
use Rattle.play_scheduler.proofs.Rights.{entry, in_turn, out_of_turn, plays, quiet}
use Rattle.run_executor.specs.Executing.IsThere.{use_at}
use Rattle.play_scheduler.specs.Given.ScenesScene.{Scene}
use Rattle.seize_words.proofs.General.{both_true}

empty_is : {X : Type 0} (xs : List X) → is_empty xs ≡ (length xs == 0)
empty_is [] = refl
empty_is (x ∷ xs) = sym (ne_eqb (suc (length xs)) 0 (λ z. omega (arith, z)))

empty_alike : {X Y Z : Type 0} (f : X → Z) (g : Y → Z) (xs : List X) (ys : List Y) → map f xs ≡ map g ys → is_empty xs ≡ (length ys == 0)
empty_alike f g [] [] e = refl
empty_alike f g [] (y ∷ ys) e = absurd (cc e)
empty_alike f g (x ∷ xs) [] e = absurd (cc e)
empty_alike f g (x ∷ xs) (y ∷ ys) e = sym (ne_eqb (suc (length ys)) 0 (λ z. omega (arith, z)))

none_in : {X : Type 0} (xs : List X) → (length xs == 0) ≡ true → xs ≡ []
none_in [] e = refl
none_in (x ∷ xs) e = absurd (let z = eqb-true (suc (length xs)) 0 e in omega (arith, z))

module _ {K V S : Type 0} (same : K → K → Bool) (hash : K → ℕ) (terms : Terms) (m : Moment K V) (p : Scheduler K V S) (stands : RefinesFor same hash terms m p) where
  abbrev s : Scene K V
  s = stands.scene

  pub gone_is : is_left m ≡ are_gone p.there p.calls
  gone_is =
      ap (λ (x : Present). is_empty x.registrations && all_forgotten x.guards && is_empty m.calls) stands.there
      ∙ ap (λ (q : Bool). q && all_forgotten p.there.guards && is_empty m.calls) (empty_is p.there.registrations)
      ∙ ap (λ (q : Bool). (length p.there.registrations == 0) && all_forgotten p.there.guards && q) (empty_alike seen seen_of m.calls p.calls stands.calls.listed)

  pub no_maps : is_empty m.maps ≡ (length p.maps == 0)
  no_maps = empty_alike named named_of m.maps p.maps stands.maps.listed

  module _ (gone : are_gone p.there p.calls ≡ true) where
    no_callers : p.calls ≡ []
    no_callers =
        none_in p.calls
        (both_true ((length p.there.registrations == 0) && all_forgotten p.there.guards) (length p.calls == 0) gone).1

    none_called : (n i : ℕ) (o : Option (UnderWay K V K)) → s.calls n i ≡ o → s.calls n i ≡ None
    none_called n i None e = e
    none_called n i (Some u) e =
        absurd (let any = subst (λ (xs : List (NamedCaller V)). list_any (λ d. (d.map == n) && (d.number == i)) xs ≡ true) no_callers (stands.calls.only n i u e) in cc any)

    no_calls : (n i : ℕ) → s.calls n i ≡ None
    no_calls n i = none_called n i (s.calls n i) refl

    pub nobody_has : NobodyHas p.logged.executor
    nobody_has i = stands.rests i (λ n. no_calls n i)

    rests : (i : ℕ) → s.world.row i ≡ Rests
    rests i = row_rests same hash p.logged.executor s stands.shown.is_at i (nobody_has i)

    pub may_reclaim : (may : MayGiveAll p s) → MayReclaim p.logged.executor s may.lists (nat_lt 0 (known p.logged.notes).buckets)
    may_reclaim may = by (nat_lt 0 (known p.logged.notes).buckets) refl
      where
        by : (q : Bool) → nat_lt 0 (known p.logged.notes).buckets ≡ q → MayReclaim p.logged.executor s may.lists q
        by true e = (may.left, subst (λ x. IsSome (word_at x (Slot 0 HEAD))) (sym stands.shown.is_at.held.memory) (may.slots.some (grind (arith, e))))
        by false e = (
          may.left,
          never_taken deferred_word p.logged.executor.batch_size p.logged.executor.roots 0 s.world stands.shown.is_at.held.together.makings.standing.came rests
              (ap (λ x. word_at x (Slot 0 HEAD)) stands.shown.is_at.held.memory ∙ may.slots.none (grind (arith, e))),
        )

    module _ (lists : ℕ → List ℕ) (taken : Bool) (may : MayReclaim p.logged.executor s lists taken) (new : Logged K V S) (before after : List Effect) (empty : before ≡ [])
        (ran : ReclaimingRan taken before after p.logged new) (roots : new.executor.roots ≡ p.logged.executor.roots) where
      did_is : after ≡ ran.0
      did_is = ran.1 ∙ ap (λ (xs : List Effect). xs ++ ran.0) empty

      abbrev w : Moment K V
      w = with_effects None None ran.0 m

      abbrev u : (s2 : Scene K V) × ReclaimingCame s s2 × AllIsReclaimed p.logged.executor.roots s2.world s2.maps × AllIsShown same hash stands.name w new s2 × ReclaimRetired ran.0 m
      u = ran.2 same hash stands.name m s lists stands.shown nobody_has may

      abbrev s2 : Scene K V
      s2 = u.0

      same_calls : (n i : ℕ) → s2.calls n i ≡ s.calls n i
      same_calls n i = ap (λ (f : ℕ → ℕ → Option (UnderWay K V K)). f n i) u.1.calls

      stands_still : (t : NamedMap) → ((standing : Standing K) × (s.maps t.number ≡ Some standing)) → (standing : Standing K) × (s2.maps t.number ≡ Some standing)
      stands_still t st = some_setting (s2.maps t.number) st.0.setting (u.1.maps t.number ∙ ap (option_map (λ standing. standing.setting)) st.1)

      abbrev Then : ℕ → Bool → Bool → List Effect → Moment K V
      Then events closed alone did = elsewhere events m.is_mapped closed alone nobody m.slots [] [] (with_effects None None did m)

      pub stands_then : (events : ℕ) (closed alone : Bool) (p2 : Scheduler K V S) → p2 ≡ record p { logged = new; there = nobody; is_closed = p2.is_closed } → closed ≡ p2.is_closed
          → RefinesFor same hash terms (Then events closed alone after) p2
      stands_then events closed alone p2 is is_closed =
          subst (λ (xs : List Effect). RefinesFor same hash terms (Then events closed alone xs) p2) (sym did_is)
          (subst (RefinesFor same hash terms (Then events closed alone ran.0)) (sym is) (record {
            name = stands.name;
            scene = s2;
            shown = record {
              is_at = u.3.is_at;
              shows = shown_elsewhere w (known new.notes) events m.is_mapped closed alone nobody m.slots [] [] same stands.name s2 u.3.shows;
              kept = kept_elsewhere w (known new.notes) events m.is_mapped closed alone nobody m.slots [] [] stands.name s2 u.3.kept;
              counted = record {
                numbered = numbered_elsewhere w (known new.notes) events m.is_mapped closed alone nobody m.slots [] [] new u.3.numbered;
                remains = subst (λ (r : ℕ). RefinesRemains r (elsewhere events m.is_mapped closed alone nobody m.slots [] [] w) (known new.notes) s2) (sym roots)
                    (reclaimed_remain K V p.logged.executor.roots m (elsewhere events m.is_mapped closed alone nobody m.slots [] [] w) (known p.logged.notes) (known new.notes) s s2 stands.shown.counted.remains (roots_stay None None ran.0 m) refl
                    (λ j. ap (λ (f : ℕ → Option (Beginning K)). f j) u.1.makers ∙ no_making_of same hash p.logged.executor s stands.shown.is_at j (nobody_has j))
                    (λ j. ap (λ (f : ℕ → Option (Finishing K V)). f j) u.1.enders ∙ no_ending_of same hash p.logged.executor s stands.shown.is_at j (nobody_has j)) u.2);
              };
            };
            given = stands.given;
            there = refl;
            mapped = stands.mapped;
            closed = is_closed;
            calls = let c = stands.calls in record {
              listed = ap (λ (l : List (CallThere K V)). map seen l) (calls_none None ran.0 m) ∙ c.listed;
              once = c.once;
              each = subst (AllByRecursion (IsUnderWay stands.name s2 nobody)) (sym no_callers) tt;
              only = λ n i v is_there. c.only n i v (sym (same_calls n i) ∙ is_there);
            };
            maps = record {
              listed = maps_named None None ran.0 m ∙ stands.maps.listed;
              stand = all_so (λ t. (standing : Standing K) × (s.maps t.number ≡ Some standing)) (λ t. (standing : Standing K) × (s2.maps t.number ≡ Some standing)) stands_still p.maps stands.maps.stand;
            };
            slots = λ t. used_once (use_at new.executor t) used.Vacant (s2.world.uses t) (u.3.is_at.uses t) (u.2.nothing.2 t);
            rests = λ j none.
                (let at = stands.shown.is_at in
                no_work_at same hash new.executor s2 u.3.is_at j none (ap (λ (f : ℕ → Option (Beginning K)). f j) u.1.makers ∙ no_making_of same hash p.logged.executor s at j (nobody_has j))
                (ap (λ (f : ℕ → Option (Finishing K V)). f j) u.1.enders ∙ no_ending_of same hash p.logged.executor s at j (nobody_has j)) (u.2.nothing.0 j));
            names = nobody_named;
          }))

module _ {K V S : Type 0} (same : K → K → Bool) (hash : K → ℕ) (terms : Terms) (log : List (Entry K V)) (p : Scheduler K V S) where
  abbrev now : Moment K V
  now = moment log

  module _ (due : IsInTurn same hash terms log ReclaimAll p) where
    pub not_left : are_gone p.there p.calls ≡ false → Plays same hash terms log (quiet ReclaimAll (Refused Busy)) p
    not_left there =
        let e = quiet ReclaimAll (Refused Busy) in
        plays same hash terms log ReclaimAll p due e refl (out_of_turn IsDone (is_left now) (Refused Busy) (gone_is same hash terms now p due.played ∙ there) refl)
        (stands_on same hash terms now p due.played (now.events + 1) (now.is_alone && is_alone_on e now) now.slots now.sheltered)

    module _ (gone : are_gone p.there p.calls ≡ true) (may : MayGiveAll p due.played.scene) (new : Logged K V S) (before after : List Effect) (empty : before ≡ [])
        (ran : ReclaimingRan (nat_lt 0 (known p.logged.notes).buckets) before after p.logged new) (roots : new.executor.roots ≡ p.logged.executor.roots) where
      pub all_reclaimed : (p2 : Scheduler K V S) → p2 ≡ record p { logged = new; there = nobody } → Plays same hash terms log (entry ReclaimAll Done 0 after) p2
      all_reclaimed p2 is =
          let e = entry ReclaimAll Done 0 after in
          plays same hash terms log ReclaimAll p2 due e refl (in_turn IsDone (is_left now) Done (gone_is same hash terms now p due.played ∙ gone) refl)
          (stands_then same hash terms now p due.played gone may.lists (nat_lt 0 (known p.logged.notes).buckets) (may_reclaim same hash terms now p due.played gone may) new before after empty ran roots
          (now.events + 1) now.is_closed (now.is_alone && is_alone_on e now) p2 (is ∙ ap (λ (b : Bool). record p { logged = new; there = nobody; is_closed = b }) (sym (ap (λ (x : Scheduler K V S). x.is_closed) is)))
          (due.played.closed ∙ sym (ap (λ (x : Scheduler K V S). x.is_closed) is)))

  module _ (due : IsInTurn same hash terms log Close p) where
    abbrev turn : Bool
    turn = is_left now && is_empty now.maps

    turn_is : turn ≡ (are_gone p.there p.calls && (length p.maps == 0))
    turn_is = ap (λ (q : Bool). q && is_empty now.maps) (gone_is same hash terms now p due.played) ∙ ap (λ (q : Bool). are_gone p.there p.calls && q) (no_maps same hash terms now p due.played)

    pub not_closed : (are_gone p.there p.calls && (length p.maps == 0)) ≡ false → Plays same hash terms log (quiet Close (Refused Busy)) p
    not_closed out =
        let e = quiet Close (Refused Busy) in
        plays same hash terms log Close p due e refl (out_of_turn IsDone turn (Refused Busy) (turn_is ∙ out) refl)
        (stands_on same hash terms now p due.played (now.events + 1) (now.is_alone && is_alone_on e now) now.slots now.sheltered)

    module _ (gone : are_gone p.there p.calls ≡ true) (none : (length p.maps == 0) ≡ true) (may : MayGiveAll p due.played.scene) (new : Logged K V S) (before after : List Effect)
        (empty : before ≡ []) (ran : ReclaimingRan (nat_lt 0 (known p.logged.notes).buckets) before after p.logged new) (roots : new.executor.roots ≡ p.logged.executor.roots) where
      pub has_closed : (p2 : Scheduler K V S) → p2 ≡ record p { logged = new; there = nobody; is_closed = true } → Plays same hash terms log (entry Close Done 0 after) p2
      has_closed p2 is =
          let e = entry Close Done 0 after in
          plays same hash terms log Close p2 due e refl (in_turn IsDone turn Done (turn_is ∙ ap (λ (q : Bool). q && (length p.maps == 0)) gone ∙ none) refl)
          (stands_then same hash terms now p due.played gone may.lists (nat_lt 0 (known p.logged.notes).buckets) (may_reclaim same hash terms now p due.played gone may) new before after empty ran roots
          (now.events + 1) true (now.is_alone && is_alone_on e now) p2 (is ∙ ap (λ (b : Bool). record p { logged = new; there = nobody; is_closed = b }) (sym (ap (λ (x : Scheduler K V S). x.is_closed) is)))
          (sym (ap (λ (x : Scheduler K V S). x.is_closed) is)))
