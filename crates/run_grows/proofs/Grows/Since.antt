-- What is so of each call under way by what is so of its map, or was at a moment since it began, whatever happens.
use Rattle.std.specs.Prelude.{◌≡◌, ◌≢◌, ◌⊎◌, ◌≤◌, ◌+◌, ◌==◌, ℕ, Bool, true, false, cond, not, List, find, map as list_map, Some, if◌then◌else◌}
use Rattle.std.proofs.Common.{refl, ap, sym, subst, ◌∙◌, arith, inl, inr}
use Rattle.papaya_raw.specs.Given.TablesDeclared.node.Node.{Node}
use Rattle.papaya_raw.specs.Machine.{machine_asked, machine_replied}
use Rattle.papaya_raw.specs.declared.machines.asking.MachineReply.{MachineReply}
use Rattle.papaya_raw.specs.declared.machines.machine.Machine.{Machine}
use Rattle.papaya_raw.specs.declared.machines.progress.Progress.{Progress}
use Rattle.run_schedules.specs.Runs.Same.{is_same}
use Rattle.run_schedules.specs.declared.call.Call.{Call}
use Rattle.run_schedules.specs.declared.call.Reply.{Reply}
use Rattle.run_schedules.specs.declared.effect.Effect.{Effect}
use Rattle.run_schedules.specs.declared.outcome.Outcome.{Outcome}
use Rattle.run_schedules.specs.Schedules.After.{replied, without_call}
use Rattle.run_schedules.specs.Schedules.Beginning.{fresh_call, with_call}
use Rattle.run_schedules.specs.Schedules.Effects.{with_effects}
use Rattle.run_schedules.specs.Schedules.Entry.{ends_call}
use Rattle.run_schedules.specs.Schedules.Lists.{OneOf}
use Rattle.run_schedules.specs.Schedules.Moment.{MapThere, Moment, UnderWay as CallThere}
use Rattle.run_schedules.specs.Schedules.Views.{call_of, map_at}
use Rattle.run_finds.specs.Given.CallersTogether.{UnderWay}
use Rattle.run_finds.specs.Given.EffectsEffects.{effects_of}
use Rattle.run_finds.specs.Given.EffectsKnown.{Known}
use Rattle.run_finds.specs.Given.EffectsDeclared.acting.Acting.TheVariants as acts
use Rattle.run_finds.specs.Given.FinishesMachines.{machine_of}
use Rattle.run_finds.specs.Given.FinishesMaps.{Standing, with_call as with_in}
use Rattle.run_finds.specs.Given.FollowsCalling.{NoneNamed, come_to, told}
use Rattle.run_finds.specs.Given.FollowsCalls.{RefinesCalls as IsThere}
use Rattle.run_finds.proofs.Given.FollowsCalling.{apart_back, come, come_of_same, found_kept, replied_same}
use Rattle.run_finds.proofs.Given.FollowsCalls.{found}
use Rattle.run_finds.proofs.Given.FollowsSteps.{WentTo, went_to}
use Rattle.run_finds.proofs.Given.HandsAsking.{which}
use Rattle.run_finds.proofs.Given.HandsCalling.{caller_is}
use Rattle.run_finds.specs.Given.OthersWalks.{given_up}
use Rattle.run_finds.specs.Given.MomentsWhole.{RefinesWhole}
use Rattle.run_finds.proofs.Given.ChangesBegun.{comes_begun, effects_begun, if_begun, replied_begun}
use Rattle.run_finds.proofs.Given.ChangesLogs.{grows, now_there}
use Rattle.run_grows.proofs.Grows.Finding.Between.{fewer_calls}
use Rattle.run_kept.proofs.Given.ScenesMay.{standing_is}
use Rattle.run_finds.specs.Given.ScenesHeld.{Held, IsAt}
use Rattle.run_finds.specs.Given.ScenesReplying.{scene_with, unless_stopped}
use Rattle.run_finds.specs.Given.ScenesScene.{Scene}
use Rattle.run_finds.specs.Given.ScenesStepping.{StepLeads, scene_after}
use Rattle.run_schedules.specs.Schedules.Transition.{Past, further}
use Rattle.run_finds.specs.Given.ChangesHistories.{IsPast}
use Rattle.run_finds.proofs.Given.General.{same_some as one_of}
use Rattle.run_finds.proofs.Given.SettlesCalls.{goes_as_one}

-- pairs are where they were
pub record HasSamePairs {K V : Type 0} (m v : Moment K V) : Type 0 where
  pub stored : v.stored ≡ m.stored
  pub place : v.place ≡ m.place
  pub born : v.born ≡ m.born
  pub spot : v.spot ≡ m.spot

module _ {K V X : Type 0} (Of : (X → Type 0) → Machine K V K → Type 0) (more : (A B : X → Type 0) → ((x : X) → A x → B x) → (machine : Machine K V K) → Of A machine → Of B machine)
    (replies : (A : X → Type 0) (machine : Machine K V K) (reply : MachineReply V) → Of A machine → Of A (machine_replied machine reply).0) (asked : (A : X → Type 0) (machine : Machine K V K) → Of A machine → Of A (machine_asked machine).0)
    (So : ℕ → X → Moment K V → Type 0) (Alike : Moment K V → Moment K V → Type 0) (alike : (m v : Moment K V) → HasSamePairs m v → Alike m v)
    (so_where : (m v : Moment K V) → Alike m v → v.tables ≡ m.tables → (n : ℕ) → map_at n v ≡ map_at n m → (x : X) → So n x m → So n x v) where
  -- it was so at a moment of the log since then, or is so now
  abbrev pub HadSo : ℕ → ℕ → Past K V → X → Type 0
  HadSo map begun log x = OneOf (So map x) (log.since begun)

  abbrev pub HasSo : ℕ → ℕ → Past K V → Moment K V → X → Type 0
  HasSo map begun log m x = HadSo map begun log x ⊎ So map x m

  abbrev pub ShowsSo : (ℕ → List ℕ) → Past K V → Moment K V → Scene K V → Type 0
  ShowsSo name log m s =
      (map i : ℕ) (u : UnderWay K V K) → s.calls map i ≡ Some u → (c : CallThere K V) → call_of (name i) m ≡ Some c → Of (HasSo map c.begun log m) (machine_of u)

  abbrev pub OthersSo : (ℕ → List ℕ) → Past K V → ℕ → Moment K V → Scene K V → Type 0
  OthersSo name log i m s =
      (map j : ℕ) (u : UnderWay K V K) → s.calls map j ≡ Some u → j ≢ i → (c : CallThere K V) → call_of (name j) m ≡ Some c → Of (HadSo map c.begun log) (machine_of u)

  so_same : (m v : Moment K V) → Alike m v → v.maps ≡ m.maps → v.tables ≡ m.tables → (n : ℕ) (x : X) → So n x m → So n x v
  so_same m v pairs maps tables n x is = so_where m v pairs tables n (ap (λ (fs : List MapThere). find (λ f. f.number == n) fs) maps) x is

  -- a call is found as it was, where calls are the same
  found_same : (m v : Moment K V) → v.calls ≡ m.calls → (own : List ℕ) (d : CallThere K V) → call_of own v ≡ Some d → call_of own m ≡ Some d
  found_same m v calls own d is = ap (λ (l : List (CallThere K V)). find (λ y. is_same y.caller own) l) (sym calls) ∙ is

  module _ (log : Past K V) (m v : Moment K V) where
    -- so it is of the same machine, on a map that has a second table still, and of a call that began with the same event
    moved : (n n2 b b2 : ℕ) (machine machine2 : Machine K V K) → n2 ≡ n → b2 ≡ b → machine2 ≡ machine → ((x : X) → So n x m → So n x v) → Of (HasSo n b log m) machine
        → Of (HasSo n2 b2 log v) machine2
    moved n n2 b b2 machine machine2 same_map begun same_machine keeps makes =
        subst (λ (q : ℕ). Of (HasSo q b2 log v) machine2) (sym same_map)
        (subst (λ (q : ℕ). Of (HasSo n q log v) machine2) (sym begun)
        (subst (λ (q : Machine K V K). Of (HasSo n b log v) q) (sym same_machine)
        (more (HasSo n b log m) (HasSo n b log v) (λ x so. follow x so) machine makes)))
      where
        follow : (x : X) → HasSo n b log m x → HasSo n b log v x
        follow x (inl had) = inl had
        follow x (inr now) = inr (keeps x now)

  module _ (name : ℕ → List ℕ) (log : Past K V) (m v : Moment K V) (s t : Scene K V) (shows : ShowsSo name log m s) where
    -- where calls are as they were, or are under way no more
    pub so_stay : ((n j : ℕ) (x : UnderWay K V K) → t.calls n j ≡ Some x → (y : X) → So n y m → So n y v) → ((n j : ℕ) (x : UnderWay K V K) → t.calls n j ≡ Some x → s.calls n j ≡ Some x)
        → ((n j : ℕ) (x : UnderWay K V K) → t.calls n j ≡ Some x → (d : CallThere K V) → call_of (name j) v ≡ Some d → (c : CallThere K V) × (call_of (name j) m ≡ Some c) × (d.begun ≡ c.begun)) → ShowsSo name log v t
    so_stay keeps was calls n j x is d d_is =
        let c = calls n j x is d d_is in moved log m v n n c.0.begun d.begun (machine_of x) (machine_of x) refl c.2 refl (keeps n j x is) (shows n j x (was n j x is) c.0 c.1)

    pub so_alike : v.calls ≡ m.calls → ((n j : ℕ) (x : UnderWay K V K) → t.calls n j ≡ Some x → (y : X) → So n y m → So n y v) → ((n j : ℕ) (x : UnderWay K V K) → t.calls n j ≡ Some x → s.calls n j ≡ Some x) → ShowsSo name log v t
    so_alike calls keeps was = so_stay keeps was (λ n j x is d d_is. (d, found_same m v calls (name j) d d_is, refl))

  -- at a moment with other maps, where those that stand are found as they were
  pub so_where_found : (same : K → K → Bool) (hash : ℕ → K → ℕ) (name : ℕ → List ℕ) (log : Past K V) (m v : Moment K V) (s : Scene K V) (e : Held K V) → IsAt same hash e s → ShowsSo name log m s
      → ((n : ℕ) (st : Standing K) → s.maps n ≡ Some st → map_at n v ≡ map_at n m) → Alike m v → v.tables ≡ m.tables → v.calls ≡ m.calls → ShowsSo name log v s
  so_where_found same hash name log m v s e at shows still pairs tables calls n j x is d d_is =
      let st = standing_is same hash e s at n j x is in
      moved log m v n n d.begun d.begun (machine_of x) (machine_of x) refl refl refl (so_where m v pairs tables n (still n st.0 st.1)) (shows n j x is d (found_same m v calls (name j) d d_is))

  -- with a further event of the log
  pub so_grow : (name : ℕ → List ℕ) (log : Past K V) (next : Moment K V) (m : Moment K V) (s : Scene K V)
      → ((map i : ℕ) (u : UnderWay K V K) → s.calls map i ≡ Some u → (c : CallThere K V) → call_of (name i) m ≡ Some c → c.begun ≤ log.entries) → ShowsSo name log m s → ShowsSo name (further next log) m s
  so_grow name log next m s begun shows n j x is c c_is =
      more (HasSo n c.begun log m) (HasSo n c.begun (further next log) m) (λ y so. follow y so) (machine_of x) (shows n j x is c c_is)
    where
      follow : (y : X) → HasSo n c.begun log m y → HasSo n c.begun (further next log) m y
      follow y (inl had) = inl (subst (OneOf (So n y)) (sym (grows next log c.begun (let b = begun n j x is c c_is in omega (arith, b)))) (inr had))
      follow y (inr now) = inr now

  -- Where a call begins, is told, is asked for its next pair, or is given up.

  module _ (same : K → K → Bool) (name : ℕ → List ℕ) (log : Past K V) (m : Moment K V) (s : Scene K V) (shows : ShowsSo name log m s) (map i : ℕ) (u : UnderWay K V K) where
    pub calls_begin_so : (guard : List ℕ) (its : Call K V) → ((Why : X → Type 0) → Of Why (machine_of u)) → NoneNamed name (name i) s
        → ShowsSo name log (with_call (name i) guard its (Some map) m) (scene_with map i u s)
    calls_begin_so guard its none apart n j x is d d_is =
        elim (which s.calls map i (Some u) n j x is) as (λ _. Of (HasSo n d.begun log (with_call (name i) guard its (Some map) m)) (machine_of x)) [
          | inl own ↦
              subst (λ (z : UnderWay K V K). Of (HasSo n d.begun log (with_call (name i) guard its (Some map) m)) (machine_of z)) (one_of u x own.2)
              (none (HasSo n d.begun log (with_call (name i) guard its (Some map) m)))
          | inr was ↦
              moved log m (with_call (name i) guard its (Some map) m) n n d.begun d.begun (machine_of x) (machine_of x) refl refl refl (so_same m (with_call (name i) guard its (Some map) m) (alike m (with_call (name i) guard its (Some map) m) (record { stored = refl; place = refl; born = refl; spot = refl })) refl refl n)
              (shows n j x was.1 d (found_now j (apart n j x was.1) d d_is))
        ]
      where
        found_now : (j : ℕ) → is_same (name i) (name j) ≡ false → (d : CallThere K V) → call_of (name j) (with_call (name i) guard its (Some map) m) ≡ Some d → call_of (name j) m ≡ Some d
        found_now j e d d_is = sym (ap (λ (z : Bool). cond z (Some (fresh_call (name i) guard its map m.events)) (find (λ c. is_same c.caller (name j)) m.calls)) e) ∙ d_is

    module _ (here : s.calls map i ≡ Some u) (shown : IsThere same name m s.calls) (next : UnderWay K V K) where
      pub calls_take_so : (reply : Reply V) (machine_reply : MachineReply V) → machine_of next ≡ (machine_replied (machine_of u) machine_reply).0 → ShowsSo name log (told (name i) reply m) (scene_with map i next s)
      calls_take_so reply machine_reply next_is n j x is d d_is =
          elim (which s.calls map i (Some next) n j x is) as (λ _. Of (HasSo n d.begun log (told (name i) reply m)) (machine_of x)) [
            | inl own ↦
                (let c = shown map i u here in
                moved log m (told (name i) reply m) map n c.0.begun d.begun (machine_replied (machine_of u) machine_reply).0 (machine_of x) own.0
                (begun_same j d c.0 (ap (λ (k : ℕ). call_of (name k) m) own.1 ∙ c.1) d_is) (ap (λ (z : UnderWay K V K). machine_of z) (sym (one_of next x own.2)) ∙ next_is) (so_same m (told (name i) reply m) (alike m (told (name i) reply m) (record { stored = refl; place = refl; born = refl; spot = refl })) refl refl map)
                (replies (HasSo map c.0.begun log m) (machine_of u) machine_reply (shows map i u here c.0 c.1)))
            | inr was ↦
                (let c = shown n j x was.1 in
                moved log m (told (name i) reply m) n n c.0.begun d.begun (machine_of x) (machine_of x) refl (begun_same j d c.0 c.1 d_is) refl (so_same m (told (name i) reply m) (alike m (told (name i) reply m) (record { stored = refl; place = refl; born = refl; spot = refl })) refl refl n) (shows n j x was.1 c.0 c.1))
          ]
        where
          tells : CallThere K V → CallThere K V
          tells y = replied reply y y.stands

          begun_same : (j : ℕ) (d b : CallThere K V) → call_of (name j) m ≡ Some b → call_of (name j) (told (name i) reply m) ≡ Some d → d.begun ≡ b.begun
          begun_same j d b b_is d_is =
              let one : d ≡ (if is_same b.caller (name i) then tells b else b) =
              one_of d (if is_same b.caller (name i) then tells b else b) (sym d_is ∙ found tells (λ y. replied_same reply y y.stands) (name i) (name j) m.calls b b_is) in
              ap (λ (y : CallThere K V). y.begun) one ∙ if_begun tells (λ y. replied_begun reply y y.stands) b (is_same b.caller (name i))

      pub walks_go_on_so : machine_of next ≡ (machine_asked (machine_of u)).0 → ShowsSo name log m (scene_with map i next s)
      walks_go_on_so next_is n j x is d d_is = elim (which s.calls map i (Some next) n j x is) as (λ _. Of (HasSo n d.begun log m) (machine_of x)) [
        | inl own ↦
            moved log m m map n d.begun d.begun (machine_asked (machine_of u)).0 (machine_of x) own.0 refl (ap (λ (z : UnderWay K V K). machine_of z) (sym (one_of next x own.2)) ∙ next_is) (λ y has. has)
            (asked (HasSo map d.begun log m) (machine_of u) (shows map i u here d (ap (λ (k : ℕ). call_of (name k) m) (sym own.1) ∙ d_is)))
        | inr was ↦ shows n j x was.1 d d_is
      ]

      abbrev at_end : Bool → Scene K V
      at_end q = record s { calls = with_in s.calls map i (unless_stopped q u) }

      pub walks_stop_so : (q : Bool) → (q ≡ true → NoneNamed name (name i) (at_end q)) → ShowsSo name log (given_up (name i) q m) (at_end q)
      walks_stop_so false none n j x is d d_is = shows n j x (fewer_calls s map i u here false n j x is) d d_is
      walks_stop_so true none n j x is d d_is =
          moved log m (given_up (name i) true m) n n d.begun d.begun (machine_of x) (machine_of x) refl refl refl (so_same m (given_up (name i) true m) (alike m (given_up (name i) true m) (record { stored = refl; place = refl; born = refl; spot = refl })) refl refl n)
          (shows n j x (fewer_calls s map i u here true n j x is) d found_there)
        where
          found_there : call_of (name j) m ≡ Some d
          found_there =
              let had = shown n j x (fewer_calls s map i u here true n j x is) in
              let named = caller_is (name j) m had.0 had.1 in
              let kept : not (is_same had.0.caller (name i)) ≡ true = ap (λ (l : List ℕ). not (is_same l (name i))) named ∙ ap not (apart_back (name i) (name j) (none refl n j x is)) in
              let now = found_kept (λ (y : CallThere K V). is_same y.caller (name j)) (λ (y : CallThere K V). not (is_same y.caller (name i))) m.calls had.0 had.1 kept in had.1 ∙ sym now ∙ d_is

  -- Where a call comes to an outcome.
  module _ (same : K → K → Bool) (name : ℕ → List ℕ) (log : Past K V) (m : Moment K V) (s : Scene K V) (shows : ShowsSo name log m s) (shown : IsThere same name m s.calls) (own : List ℕ) (o : Outcome V)
      (steps : ℕ) (ended : ends_call o ≡ true → NoneNamed name own s) where
    came : (n j : ℕ) (x : UnderWay K V K) → s.calls n j ≡ Some x → (c : CallThere K V) → call_of (name j) m ≡ Some c → (d : CallThere K V) → call_of (name j) (come_to own o steps m) ≡ Some d
        → d ≡ (if is_same (name j) own then come o steps c else c)
    came n j x is c c_is d d_is = by (ends_call o) refl
      where
        found_then : (q : Bool) → ends_call o ≡ q
            → find (λ y. is_same y.caller (name j)) (if q then without_call own m.calls else list_map (λ y. if is_same y.caller own then come o steps y else y) m.calls) ≡ Some d
        found_then q e =
            sym (ap (λ (z : Bool). find (λ y. is_same y.caller (name j)) (if z then without_call own m.calls else list_map (λ y. if is_same y.caller own then come o steps y else y) m.calls)) e) ∙ d_is

        named : c.caller ≡ name j
        named = caller_is (name j) m c c_is

        by : (q : Bool) → ends_call o ≡ q → d ≡ (if is_same (name j) own then come o steps c else c)
        by true e =
            let other : is_same (name j) own ≡ false = apart_back own (name j) (ended e n j x is) in
            let kept : not (is_same c.caller own) ≡ true = ap (λ (l : List ℕ). not (is_same l own)) named ∙ ap not other in
            one_of d c (sym (found_then true e) ∙ found_kept (λ y. is_same y.caller (name j)) (λ y. not (is_same y.caller own)) m.calls c c_is kept)
            ∙ sym (ap (λ (q : Bool). if q then come o steps c else c) other)
        by false e =
            one_of d (if is_same c.caller own then come o steps c else c) (sym (found_then false e) ∙ found (come o steps) (come_of_same o steps) own (name j) m.calls c c_is)
            ∙ ap (λ (l : List ℕ). if is_same l own then come o steps c else c) named

    pub calls_come_to_so : ShowsSo name log (come_to own o steps m) s
    calls_come_to_so n j x is d d_is =
        let c = shown n j x is in
        moved log m (come_to own o steps m) n n c.0.begun d.begun (machine_of x) (machine_of x) refl
        (ap (λ (y : CallThere K V). y.begun) (came n j x is c.0 c.1 d d_is) ∙ if_begun (come o steps) (λ y. comes_begun o (record y { steps = y.steps + steps })) c.0 (is_same (name j) own)) refl (so_same m (come_to own o steps m) (alike m (come_to own o steps m) (record { stored = refl; place = refl; born = refl; spot = refl })) refl refl n)
        (shows n j x is c.0 c.1)

  -- A step of a call.

  module _ (same : K → K → Bool) (hash : ℕ → K → ℕ) (name : ℕ → List ℕ) (log : Past K V) (m : Moment K V) (known : Known) (s : Scene K V) (old new : Held K V) (at : IsAt same hash old s)
      (whole : RefinesWhole same name m known s) (map i : ℕ) (u : UnderWay K V K) (here : s.calls map i ≡ Some u) (said : Progress (Node K V)) (leads : StepLeads same hash i said s old new)
      (others : OthersSo name log i m s) where
    abbrev to : WentTo same hash name m known s old new at whole.all.shown map i u here said leads
    to = went_to same hash name m known s old new at whole.all.shown map i u here said leads

    abbrev effects : List Effect
    effects = effects_of (acts.Call i map) known new.changed

    abbrev v : Moment K V
    v = with_effects (Some (name i)) (Some map) effects m

    abbrev led : Scene K V
    led = scene_after same s old new map i to.0 u to.1 said to.4

    -- a call of v is one of m, begun by the same event
    was_begun : (j : ℕ) (c d : CallThere K V) → call_of (name j) m ≡ Some c → call_of (name j) v ≡ Some d → d.begun ≡ c.begun
    was_begun j c d c_is d_is =
        let kept = effects_begun (name i) map (name j) effects m c c_is in ap (λ (y : CallThere K V). y.begun) (one_of d kept.0 (sym d_is ∙ kept.1)) ∙ kept.2

    pub others_go_on : OthersSo name log i v led
    others_go_on n j x is ne d d_is = elim (which s.calls map i to.4.next n j x is) as (λ _. Of (HadSo n d.begun log) (machine_of x)) [
      | inl own ↦ absurd (ne own.1)
      | inr was ↦
          (let c = whole.all.shown.calls n j x was.1 in
          subst (λ (b : ℕ). Of (HadSo n b log) (machine_of x)) (sym (was_begun j c.0 d c.1 d_is)) (others n j x was.1 ne c.0 c.1))
    ]

    -- another call is of another caller
    apart : (n j : ℕ) (x : UnderWay K V K) → s.calls n j ≡ Some x → (n ≡ map → j ≡ i → ⊥) → j ≢ i
    apart n j x is other e =
        let its = whole.all.shown.calls n j x is in
        let own = whole.all.shown.calls map i u here in
        let one : its.0 ≡ own.0 = one_of its.0 own.0 (sym its.1 ∙ ap (λ (k : ℕ). call_of (name k) m) e ∙ own.1) in other (sym its.2 ∙ ap (λ (y : CallThere K V). y.map) one ∙ own.2) e

    -- where it is so of what goes on
    pub so_go_on : (c : CallThere K V) → call_of (name i) m ≡ Some c → ((x : UnderWay K V K) → to.4.next ≡ Some x → Of (HasSo map c.begun log v) to.1) → ShowsSo name log v led
    so_go_on c c_is own_so n j x is d d_is = elim (which s.calls map i to.4.next n j x is) as (λ _. Of (HasSo n d.begun log v) (machine_of x)) [
      | inl own ↦
          moved log v v map n c.begun d.begun to.1 (machine_of x) own.0 (was_begun j c d (ap (λ (k : ℕ). call_of (name k) m) own.1 ∙ c_is) d_is) (goes_as_one to.1 said to.4.next to.4.goes_on x own.2) (λ y has. has)
          (own_so x own.2)
      | inr was ↦ more (HadSo n d.begun log) (HasSo n d.begun log v) (λ y had. inl had) (machine_of x) (others_go_on n j x is (apart n j x was.1 was.0) d d_is)
    ]

  -- Where an event of a call begins, others are as the log says.
  pub others_at_first : (name : ℕ → List ℕ) (log : Past K V) (is_past : IsPast log) (i : ℕ) (m : Moment K V) (s : Scene K V) → Alike m log.now → m.maps ≡ log.now.maps → m.tables ≡ log.now.tables
      → ((map j : ℕ) (u : UnderWay K V K) → s.calls map j ≡ Some u → (c : CallThere K V) → call_of (name j) m ≡ Some c → c.begun ≤ log.entries) → ShowsSo name log m s → OthersSo name log i m s
  others_at_first name log is_past i m s pairs maps tables begun shows n j x is ne c c_is =
      more (HasSo n c.begun log m) (HadSo n c.begun log) (λ y so. had y so) (machine_of x) (shows n j x is c c_is)
    where
      had : (y : X) → HasSo n c.begun log m y → HadSo n c.begun log y
      had y (inl before) = before
      had y (inr now) = now_there log is_past (So n y) c.begun (begun n j x is c c_is) (so_same m log.now pairs (sym maps) (sym tables) n y now)
