-- A map is made by name, or is not: its mode or capacity has a fault, none may be made, no root is free, or memory was refused.
use Rattle.std.specs.Prelude.{◌≡◌, ◌<◌, ◌+◌, ◌^◌, ◌&&◌, ◌⊎◌, nat_lt, ℕ, Bool, true, false, not, List, [], ◌∷◌, ◌++◌, length, map, is_none, Option, Some, None, MatchOption, MatchBool}
use Rattle.std.specs.Int.{IsPowerOfTwo}
use Rattle.std.specs.List.{AllByRecursion}
use Rattle.std.proofs.Common.{refl, ap, sym, subst, ◌∙◌, inl, inr, arith}
use Rattle.std.proofs.lemmas.Bool.{cases_eq}
use Rattle.std.proofs.lemmas.List.{map-append}
use Rattle.seize.specs.World.{with_at}
use Rattle.seize.specs.declared.advance.Advance.{Advance}
use Rattle.seize.specs.declared.advance.Advance.TheVariants as progress
use Rattle.seize_words.specs.declared.fault.Fault.{Fault}
use Rattle.seize_words.specs.declared.fault.Fault.TheVariants.{RootsUsedUp, Busy, Memory}
use Rattle.papaya_raw.specs.Given.TablesDeclared.resize_mode.ResizeMode.{ResizeMode}
use Rattle.papaya_raw.specs.Given.TablesDeclared.setting.Setting.{Setting}
use Rattle.owner_whole.specs.Given.ResizeNewMap.{opening}
use Rattle.run_schedules.specs.Runs.Runs.{map_fault}
use Rattle.run_schedules.specs.declared.effect.Effect.{Effect}
use Rattle.run_schedules.specs.declared.event.Event.{Event}
use Rattle.run_schedules.specs.declared.event.Event.TheVariants.{MakeMap}
use Rattle.run_schedules.specs.declared.outcome.Outcome.{Outcome}
use Rattle.run_schedules.specs.declared.outcome.Outcome.TheVariants.{Done, Refused}
use Rattle.run_schedules.specs.Schedules.After.{is_alone_on, moment}
use Rattle.run_schedules.specs.Schedules.Beginning.{used_roots, with_map}
use Rattle.run_schedules.specs.Schedules.Effects.{with_effects}
use Rattle.run_schedules.specs.Schedules.Entry.{Entry, is_busy}
use Rattle.run_schedules.specs.Schedules.InTurn.{InTurn, IsMade, has_grown}
use Rattle.run_schedules.specs.Schedules.Lists.{is_among, least_free}
use Rattle.run_schedules.specs.Schedules.Moment.{MapThere, Moment}
use Rattle.run_schedules.specs.Schedules.Terms.{Terms}
use Rattle.run_schedules.specs.Schedules.Views.{map_of, number_of}
use Rattle.run_executor.specs.Named.Places.{IsFirstLen}
use Rattle.owner_whole.proofs.Given.CallersTogether.At.{at_other, at_same}
use Rattle.owner_whole.specs.Given.FinishesEndings.{Finishing}
use Rattle.owner_whole.specs.Given.FinishesMakings.{Beginning}
use Rattle.owner_whole.specs.Given.FinishesMaps.{Standing}
use Rattle.play_scheduler.proofs.Given.OthersQuiet.{calls_none}
use Rattle.play_scheduler.specs.Given.OthersMakings.{IsNew}
use Rattle.run_executor.proofs.Given.MomentsNewMaps.{maps_come_as_new}
use Rattle.play_scheduler.specs.Given.RemainsNumbered.{NumbersUpTo}
use Rattle.play_scheduler.proofs.Given.RemainsStays.{remains_stay}
use Rattle.play_scheduler.specs.Given.LoggedMakings.{HasTable, JustAsks, CameBare, MakingCame, MakingIsBegun, MakingRan, MapIsThere}
use Rattle.play_scheduler.specs.Given.LoggedRoots.{AreTaken, FindsRoot, IsFirstFree, MakingFinds}
use Rattle.play_scheduler.specs.Given.LoggedShown.{IsShown}
use Rattle.play_scheduler.specs.Given.LoggedDeclared.logged.Logged.{Logged}
use Rattle.play_scheduler.proofs.Given.RowsElsewhere.{elsewhere}
use Rattle.play_scheduler.proofs.Given.RowsLeast.{least_is}
use Rattle.play_scheduler.proofs.Given.RowsLists.{all_so}
use Rattle.play_scheduler.specs.Mapping.{CountsMaps, IsGivenFor, MayMap}
use Rattle.play_scheduler.specs.Played.{Plays, RefinesFor}
use Rattle.play_scheduler.specs.Quiet.{BusyIsSilent}
use Rattle.run_executor.specs.Named.Seen.{named, named_of, number_named}
use Rattle.run_executor.specs.declared.named_map.NamedMap.{NamedMap}
use Rattle.play_scheduler.specs.declared.scheduler.Scheduler.{Scheduler}
use Rattle.play_scheduler.proofs.KeptOut.{faulty_stands}
use Rattle.play_stepping.proofs.Mapping.MapLists.{all_push}
use Rattle.play_stepping.proofs.Mapping.Mapped.{stands_mapped}
use Rattle.play_scheduler.proofs.Maps.{map_some}
use Rattle.play_scheduler.proofs.RanOn.{maps_named, there_stays}
use Rattle.play_scheduler.proofs.Rights.{entry, in_turn, out_of_turn, plays, quiet}
use Rattle.play_stepping.proofs.Mapping.RootsUsed.{all_used, some_free}
use Rattle.run_executor.specs.Executing.IsThere.{IsThere}
use Rattle.run_executor.specs.Executing.MakingBegins.{next_making}
use Rattle.play_scheduler.specs.Given.ScenesScene.{Scene}

module _ {K V S : Type 0} (same : K → K → Bool) (hash : K → ℕ) (terms : Terms) (log : List (Entry K V)) (p : Scheduler K V S) (own : List ℕ) (mode : ResizeMode) (capacity : ℕ)
    (may : MayMap same hash terms log (MakeMap own mode capacity) p) where
  abbrev m : Moment K V
  m = moment log

  abbrev stands : RefinesFor same hash terms m p
  stands = may.due.played

  abbrev s : Scene K V
  s = stands.scene

  abbrev counts : CountsMaps m p
  counts = may.counts

  abbrev used : List ℕ
  used = used_roots m

  abbrev event : Event K V
  event = MakeMap own mode capacity

  abbrev p1 : Scheduler K V S
  p1 = record p { is_mapped = true }

  abbrev Wanted : List Effect → Outcome V → Type 0
  Wanted did o = IsMade (nat_lt (length used) terms.roots) did o

  -- what it comes to that has no fault, and what one that has
  abbrev Comes : List Effect → Outcome V → Option Fault → Type 0
  Comes did o found = MatchOption found (InTurn (is_none (map_of own m)) (Wanted did) o) (λ fault. o ≡ Refused fault)

  refused : (fault : Fault) → Comes [] (Refused fault) (map_fault mode capacity) → Plays same hash terms log (quiet event (Refused fault)) p1
  refused fault comes = plays same hash terms log event p1 may.due (quiet event (Refused fault)) refl comes (faulty_stands same hash terms m p stands own mode capacity fault)

  pub has_fault : (fault : Fault) → map_fault mode capacity ≡ Some fault → Plays same hash terms log (quiet event (Refused fault)) p1
  has_fault fault is = refused fault (subst (Comes [] (Refused fault)) (sym is) refl)

  roots_are : terms.roots ≡ p.logged.executor.roots
  roots_are = sym (ap (λ (t : Terms). t.roots) stands.given) ∙ sym counts.roots

  may_make_is : is_none (map_of own m) ≡ is_none (number_named own p.maps)
  may_make_is = ap not (map_some same hash terms m p stands own)

  module _ (none : map_fault mode capacity ≡ None) where
    faultless : (did : List Effect) (o : Outcome V) → InTurn (is_none (map_of own m)) (Wanted did) o → Comes did o (map_fault mode capacity)
    faultless did o turn = subst (Comes did o) (sym none) turn

    pub not_now : is_none (number_named own p.maps) ≡ false → Plays same hash terms log (quiet event (Refused Busy)) p1
    not_now out = refused Busy (faultless [] (Refused Busy) (out_of_turn (Wanted []) (is_none (map_of own m)) (Refused Busy) (may_make_is ∙ out) refl))

    module _ (in_its_turn : is_none (number_named own p.maps) ≡ true) where
      turns : (did : List Effect) (o : Outcome V) → Wanted did o → Comes did o (map_fault mode capacity)
      turns did o so = faultless did o (in_turn (Wanted did) (is_none (map_of own m)) o (may_make_is ∙ in_its_turn) so)

      -- all roots are used, or one is free
      abbrev By : List Effect → Outcome V → Bool → Type 0
      By did o root = MatchBool root ((o ≡ Done) ⊎ ((o ≡ Refused Memory) × (has_grown did ≡ true))) (o ≡ Refused RootsUsedUp)

      none_free : (did : List Effect) → ((q : ℕ) → q < p.logged.executor.roots → is_among q used ≡ true) → Wanted did (Refused RootsUsedUp)
      none_free did all = subst (By did (Refused RootsUsedUp)) (sym (ap (nat_lt (length used)) roots_are ∙ all_used used p.logged.executor.roots all)) refl

      one_free : (did : List Effect) (o : Outcome V) (r : ℕ) → IsFirstFree p.logged.executor.roots (λ q. is_among q used) r → (o ≡ Done) ⊎ ((o ≡ Refused Memory) × (has_grown did ≡ true)) → Wanted did o
      one_free did o r first so =
          subst (By did o) (sym (ap (nat_lt (length used)) roots_are ∙ some_free used p.logged.executor.roots counts.once counts.below r first.0 first.1)) so

      pub no_roots : p.logged.executor.roots ≡ 0 → Plays same hash terms log (quiet event (Refused RootsUsedUp)) p1
      no_roots zero = refused RootsUsedUp (turns [] (Refused RootsUsedUp) (none_free [] (λ q l. absurd (omega (arith, l, zero)))))

      module _ (some : 0 < p.logged.executor.roots) (places : ℕ) (first : IsFirstLen places) (given : Setting) (is_given : IsGivenFor mode places p1 given) (i : ℕ) (mid : Logged K V S)
          (begins : MakingIsBegun same hash stands.name m s given places i p.logged mid) where
        abbrev b : Beginning K
        b = next_making hash given places p.logged.executor

        abbrev s1 : Scene K V
        s1 = record s { makers = with_at s.makers i (Some b) }

        here : s1.makers i ≡ Some b
        here = at_same s.makers i (Some b) i refl

        small_mask : given.mask + 1 < 2 ^ 64
        small_mask = let few = counts.processors in let half = is_given.mask.2 in omega (arith, few, half)

        shown_mid : IsShown same hash stands.name m mid s1
        shown_mid = begins may.lawful (subst IsPowerOfTwo (sym is_given.initial) first.0) is_given.batches small_mask some (λ l. first.1)

        module _ (number : ℕ) (is_number : number ≡ length p.logged.executor.maps.items) where
          pub may_run : (t : Scene K V) × IsThere same hash mid.executor t × (d : Beginning K) × (t.makers i ≡ Some d) × (d.map ≡ number)
          may_run = (s1, shown_mid.is_at, b, here, sym is_number)

          module _ (told : Advance Setting) (new : Logged K V S) (before after : List Effect) (empty : before ≡ []) (ran : MakingRan i number told before after mid new)
              (finds : MakingFinds i number told before after mid new) where
            -- it has found its root
            as_many : p.logged.executor.roots ≡ mid.executor.roots
            as_many = (shown_mid.is_at.held.together.makings.facts i b here).roots_are

            same_memory : p.logged.executor.memory.memory ≡ mid.executor.memory.memory
            same_memory = sym stands.shown.is_at.held.memory ∙ shown_mid.is_at.held.memory

            taken_mid : AreTaken mid.executor.roots (λ q. is_among q used) mid.executor.memory.memory
            taken_mid =
                subst (λ (n : ℕ). AreTaken n (λ q. is_among q used) mid.executor.memory.memory) as_many
                (subst (AreTaken p.logged.executor.roots (λ q. is_among q used)) same_memory counts.taken)

            abbrev f : (did : List Effect) × (after ≡ before ++ did) × FindsRoot mid.executor.roots (λ q. is_among q used) did new.executor.memory.memory told
            f = finds same hash s1 shown_mid.is_at b here (sym is_number) (ap (λ (n : ℕ). opening given n places) as_many) first.1.most (λ q. is_among q used) taken_mid

            did_is : after ≡ ran.0
            did_is = ran.1 ∙ ap (λ (xs : List Effect). xs ++ ran.0) empty

            found : FindsRoot p.logged.executor.roots (λ q. is_among q used) after new.executor.memory.memory told
            found =
                subst (λ (n : ℕ). FindsRoot n (λ q. is_among q used) after new.executor.memory.memory told) (sym as_many)
                (subst (λ (xs : List Effect). FindsRoot mid.executor.roots (λ q. is_among q used) xs new.executor.memory.memory told) (sym (f.1 ∙ ap (λ (xs : List Effect). xs ++ f.0) empty)) f.2)

            module _ (s2 : Scene K V) (came : MakingCame s1 s2 i b told) (gone : s2.makers i ≡ None) where
              makers_then : (j : ℕ) → s.makers j ≡ None → s2.makers j ≡ None
              makers_then j none_there = elim (cases_eq j i) as (λ _. s2.makers j ≡ None) [
                | inl e ↦ ap s2.makers e ∙ gone
                | inr ne ↦ came.makers j ne ∙ at_other s.makers i (Some b) j ne ∙ none_there
              ]

              enders_then : (j : ℕ) → s.enders j ≡ None → s2.enders j ≡ None
              enders_then j none_there = ap (λ (g : ℕ → Option (Finishing K V)). g j) came.enders ∙ none_there

          -- it was refused
          module _ (fault : Fault) (new : Logged K V S) (before after : List Effect) (empty : before ≡ []) (ran : MakingRan i number (progress.Refused fault) before after mid new)
              (finds : MakingFinds i number (progress.Refused fault) before after mid new) where
            abbrev no_map : Advance Setting
            no_map = progress.Refused fault

            right_by : (x : Fault) → FindsRoot p.logged.executor.roots (λ q. is_among q used) after new.executor.memory.memory (progress.Refused x) → Wanted after (Refused x)
            right_by RootsUsedUp so = none_free after so.0
            right_by Memory so = one_free after (Refused Memory) so.1.0 so.1.1 (inr (refl, so.0))
            right_by _ so = absurd so

            abbrev went : (t : Scene K V) × (came : MakingCame s1 t i b no_map) × IsShown same hash stands.name (with_effects None (number_of own m) ran.0 m) new t
                × (CameBare s1 t i b no_map came.maker → JustAsks b ran.0) × HasTable no_map b (with_effects None (number_of own m) ran.0 m)
            went = (ran.3 same hash stands.name m s1 shown_mid b here (sym is_number) (number_of own m)).1 tt (subst (λ (n : ℕ). NumbersUpTo n m) (sym is_number) stands.shown.counted.numbered.numbers)

            -- it was not refused as busy
            never_by : (x : Fault) → FindsRoot p.logged.executor.roots (λ q. is_among q used) after new.executor.memory.memory (progress.Refused x) → is_busy {V = V} (Refused x) ≡ false
            never_by RootsUsedUp so = refl
            never_by Memory so = refl
            never_by _ so = absurd so

            pub refused_never : is_busy {V = V} (Refused fault) ≡ false
            refused_never = never_by fault (found no_map new before after empty ran finds)

            quiet_by : (x : Fault) → is_busy {V = V} (Refused x) ≡ false → BusyIsSilent {V = V} (Refused x) after
            quiet_by Busy never = absurd (cc never)
            quiet_by _ never = tt

            pub refused_quiet : BusyIsSilent {V = V} (Refused fault) after
            refused_quiet = quiet_by fault refused_never

            abbrev refusal : Entry K V
            refusal = entry event (Refused fault) 0 after

            abbrev Then_refused : List Effect → Moment K V
            Then_refused did =
                let x = with_effects None (number_of own m) did m in
                elsewhere (m.events + 1) true m.is_closed (m.is_alone && is_alone_on refusal m) x.there m.slots x.sheltered m.remains x

            pub not_made : (p2 : Scheduler K V S) → p2 ≡ record p { logged = new; maps = p2.maps; is_mapped = p2.is_mapped } → p2.is_mapped ≡ true → p2.maps ≡ p.maps
                → Plays same hash terms log (entry event (Refused fault) 0 after) p2
            not_made p2 is mapped kept =
                plays same hash terms log event p2 may.due refusal refl (turns after (Refused fault) (right_by fault (found no_map new before after empty ran finds)))
                (subst (λ (xs : List Effect). RefinesFor same hash terms (Then_refused xs) p2) (sym (did_is no_map new before after empty ran finds))
                (stands_mapped same hash terms m p stands new (with_effects None (number_of own m) ran.0 m) went.0 went.2 went.1.calls went.1.rows went.1.uses (makers_then no_map new before after empty ran finds went.0 went.1 went.1.maker)
                (enders_then no_map new before after empty ran finds went.0 went.1 went.1.maker) (calls_none (number_of own m) ran.0 m) p2 is true (sym mapped)
                (maps_named None (number_of own m) ran.0 m ∙ stands.maps.listed ∙ ap (map named_of) (sym kept))
                (subst (AllByRecursion (λ t. (standing : Standing K) × (went.0.maps t.number ≡ Some standing))) (sym kept)
                (all_so (λ t. (standing : Standing K) × (s.maps t.number ≡ Some standing)) (λ t. (standing : Standing K) × (went.0.maps t.number ≡ Some standing))
                (λ t st. (st.0, ap (λ (g : ℕ → Option (Standing K)). g t.number) went.1.maps ∙ st.1)) p.maps stands.maps.stand))
                (with_effects None (number_of own m) ran.0 m).there (there_stays None (number_of own m) ran.0 m ∙ stands.there) (m.events + 1) (m.is_alone && is_alone_on refusal m) m.slots
                (with_effects None (number_of own m) ran.0 m).sheltered m.remains (sym (remains_stay None (number_of own m) ran.0 m))))

          -- it was made
          module _ (setting : Setting) (new : Logged K V S) (before after : List Effect) (empty : before ≡ []) (comes : MapIsThere mid) (ran : MakingRan i number (progress.Done setting) before after mid new)
              (finds : MakingFinds i number (progress.Done setting) before after mid new) where
            abbrev told : Advance Setting
            told = progress.Done setting

            abbrev there : MapThere
            there = record { name = own; number = m.made; root = least_free used; mode = mode; capacity = capacity; first = 0 }

            abbrev bm : Moment K V
            bm = with_map there m

            its_root : FindsRoot p.logged.executor.roots (λ q. is_among q used) after new.executor.memory.memory told
            its_root = found told new before after empty ran finds

            root_is : least_free used ≡ setting.root
            root_is = least_is used setting.root its_root.0.2 its_root.0.1

            mode_is : mode ≡ setting.mode
            mode_is =
                sym is_given.mode_is
                ∙ sym (ap (λ (x : Setting). x.mode) (ran.2 same hash s1 shown_mid.is_at b here (sym is_number)).1.maps.answer_is)

            pub is_next : number ≡ m.made
            is_next = is_number ∙ counts.next

            pub new_one : IsNew number setting bm
            new_one = subst (λ (n : ℕ). IsNew n setting bm) (sym is_next) (maps_come_as_new K V m counts.apart.numbers counts.pairs there refl refl setting root_is mode_is)

            pub shown_there : IsShown same hash stands.name bm mid s1
            shown_there =
                comes same hash stands.name m s1 shown_mid counts.apart.numbers there refl (subst (λ (n : ℕ). n < length mid.executor.maps.items) counts.next (shown_mid.is_at.numbers i b here))
                (ap (λ (r : ℕ). is_among r used) root_is ∙ its_root.0.1)
                (subst (λ (r : ℕ). r < mid.executor.roots) (sym root_is) (subst (λ (n : ℕ). setting.root < n) (as_many told new before after empty ran finds) its_root.0.0))

            abbrev of : Option ℕ
            of = number_of own bm

            abbrev v : Moment K V
            v = with_effects None of ran.0 bm

            abbrev u : (t : Scene K V) × (came : MakingCame s1 t i b told) × IsShown same hash stands.name v new t × (CameBare s1 t i b told came.maker → JustAsks b ran.0) × HasTable told b v
            u = (ran.3 same hash stands.name bm s1 shown_there b here (sym is_number) of).1 new_one tt

            abbrev e : Entry K V
            e = entry event Done 0 after

            abbrev Then : List Effect → Moment K V
            Then did =
                let x = with_effects None of did bm in
                elsewhere (m.events + 1) true m.is_closed (m.is_alone && is_alone_on e m) x.there m.slots x.sheltered m.remains x

            -- a map that stood stands on
            stood : (t : NamedMap) → ((standing : Standing K) × (s.maps t.number ≡ Some standing)) → (standing : Standing K) × (u.0.maps t.number ≡ Some standing)
            stood t st =
                (st.0, u.1.maps.others t.number (λ one. (let gone = ap s.maps one ∙ shown_mid.is_at.held.together.makings.coming i b here in let is = st.1 in cc (gone, is))) ∙ st.1)

            pub made : (p2 : Scheduler K V S) → p2 ≡ record p { logged = new; maps = p2.maps; is_mapped = p2.is_mapped } → p2.is_mapped ≡ true
                → p2.maps ≡ p.maps ++ record { name = own; number = number } ∷ [] → Plays same hash terms log (entry event Done 0 after) p2
            made p2 is mapped kept =
                plays same hash terms log event p2 may.due e refl (turns after Done (one_free after Done setting.root its_root.0 (inl refl)))
                (subst (λ (xs : List Effect). RefinesFor same hash terms (Then xs) p2) (sym (did_is told new before after empty ran finds))
                (stands_mapped same hash terms m p stands new v u.0 u.2 u.1.calls u.1.rows u.1.uses (makers_then told new before after empty ran finds u.0 u.1 u.1.maker)
                (enders_then told new before after empty ran finds u.0 u.1 u.1.maker) (calls_none of ran.0 bm) p2 is true (sym mapped)
                (maps_named None of ran.0 bm ∙ map-append named m.maps (there ∷ []) ∙ ap (λ (zs : List (List ℕ × ℕ)). zs ++ (own, m.made) ∷ []) stands.maps.listed
                ∙ ap (λ (n : ℕ). map named_of p.maps ++ (own, n) ∷ []) (sym is_next) ∙ sym (map-append named_of p.maps (record { name = own; number = number } ∷ [])) ∙ ap (map named_of) (sym kept))
                (subst (AllByRecursion (λ t. (standing : Standing K) × (u.0.maps t.number ≡ Some standing))) (sym kept)
                (all_push (λ t. (standing : Standing K) × (u.0.maps t.number ≡ Some standing)) p.maps (record { name = own; number = number })
                (all_so (λ t. (standing : Standing K) × (s.maps t.number ≡ Some standing)) (λ t. (standing : Standing K) × (u.0.maps t.number ≡ Some standing)) stood p.maps stands.maps.stand)
                (u.1.maps.standing, ap u.0.maps is_number ∙ u.1.maps.there)))
                v.there (there_stays None of ran.0 bm ∙ stands.there) (m.events + 1) (m.is_alone && is_alone_on e m) m.slots v.sheltered m.remains (sym (remains_stay None of ran.0 bm))))
