-- Wherever a list of acts has led: each block is somebody's behind which something may be put, any caller may reclaim all where nobody has anything under way,
-- and nothing else waits then.
use Rattle.std.specs.Prelude.{Option, Some, None, IsSome, is_some}
use Rattle.std.proofs.Common.{◌≡◌, ℕ, Bool, List, [], ◌∷◌, inl, inr, refl, ap, sym, subst}
use Rattle.run_shows.specs.Given.SeizeWordsDeclared.at.At.TheVariants.{Slot}
use Rattle.run_shows.specs.Given.SeizeWordsMem.{word_at}
use Rattle.run_shows.specs.Given.SeizeReclaimAll.{reclaiming_all, clearing}
use Rattle.run_shows.specs.Given.SeizeWorld.{at_start}
use Rattle.run_shows.specs.Given.SeizeDeclared.rows.reclaim_all.ReclaimAll.{ReclaimAll}
use Rattle.run_shows.specs.Given.SeizeDeclared.rows.settle.Settled.{Settled}
use Rattle.run_shows.specs.Given.SeizeDeclared.rows.settle.Settled.TheVariants as settled
use Rattle.run_shows.specs.Given.SeizeDeclared.states.TheConstants.{HEAD}
use Rattle.seize_acts.specs.Acts.Answers.{Grant}
use Rattle.run_shows.specs.Given.TablesNodes.{deferred_word}
use Rattle.run_shows.specs.Given.TablesDeclared.node.Node.{Node}
use Rattle.run_shows.specs.Reclaims.Slots.{IsQuiescent}
use Rattle.run_shows.proofs.Reclaims.Left.Stays.{left_is_left_behind}
use Rattle.run_shows.proofs.Reclaims.Promised.{reclaiming_begins}
use Rattle.many_acts.specs.Acts.Acts.{Answer}
use Rattle.many_acts.specs.Acts.Doings.{Doing, Does, BeginsReclaiming, BeginsClearing, StepsReclaiming, Chooses, scene_chosen, IsLeft, Stage, reclaiming, behind, MayDo, HasDone}
use Rattle.many_acts.specs.Acts.Lists.{Course, Reached, LedOn, nothing_done, on_by}
use Rattle.many_acts.specs.Acts.Reclaiming.{IsReclaimingAll, ReclaimedOn}
use Rattle.many_acts.specs.Carries.Lists.{AreTheirs, ReclaimsTo, OnlyPairsAreLeft, ListsPreserveTheirs, ReclaimingBeginsThere, OnlyPairsWaitThere, AllCanBeReclaimedThere}
use Rattle.many_acts.proofs.Carries.Acts.{by_act}
use Rattle.many_acts.proofs.Carries.Guards.{none_begins}
use Rattle.many_acts.proofs.Carries.Reclaimed.{reclaiming_comes_to_end}
use Rattle.many_acts.proofs.Carries.Reclaiming.{reclaiming_keeps_theirs, nothing_else_waits}
use Rattle.run_shows.specs.Scenes.Scene.{Scene, at_first}
use Rattle.run_shows.proofs.Given.General.{same_some}

module _ {K S : Type 0} (V : Type 0) (same : K → K → Bool) (hash : S → K → ℕ) (batch_size roots : ℕ) (slot : ℕ → ℕ) where
  -- at first users have nothing, and all roots are free
  none_at_first : AreTheirs (at_first {K = K} {V = V} roots)
  none_at_first =
      none_begins {Q = K} V same same batch_size roots slot (at_start deferred_word roots) (λ m. None) (λ m i. None) (λ i. None) (λ i. None) (λ b had. had)

  -- who reclaims all does so while nobody has anything under way
  pub idle_there : (p : Stage V same hash batch_size roots slot) (i : ℕ) (c : ReclaimAll) → reclaiming V same hash batch_size roots slot p ≡ Some (i, c)
      → IsReclaimingAll V same batch_size roots slot p.0 i (behind V same hash batch_size roots slot p) c
  idle_there (s, all, inl left) i c is = absurd (cc is)
  idle_there (s, all, inr (j, lists, d, idle)) i c is =
      subst (λ (it : ℕ × ReclaimAll). IsReclaimingAll V same batch_size roots slot s it.0 lists it.1) (same_some (j, d) (i, c) is) idle

  -- a step of a caller that reclaims all
  module _ (i : ℕ) (s : Scene K V) (lists : ℕ → List ℕ) (c : ReclaimAll) (idle : IsReclaimingAll V same batch_size roots slot s i lists c) (theirs : AreTheirs s)
      (g : Grant) (told : Settled (Node K V)) (v : Scene K V) (lists2 : ℕ → List ℕ) (c2 : ReclaimAll) (on : ReclaimedOn V same batch_size roots slot s i lists c g told v lists2 c2) where
    abbrev led : Scene K V
    led = record s { world = on.did.w2; maps = on.did.maps2 }

    pub led_theirs : AreTheirs (record s { world = on.did.w2; maps = on.did.maps2 })
    led_theirs = reclaiming_keeps_theirs V same same batch_size roots slot s.world s.maps s.calls s.makers s.enders idle.stand i lists c.stands on.memory c2 told on.did theirs

    pub then_theirs : AreTheirs v
    then_theirs = subst AreTheirs (sym on.comes) led_theirs

    pub goes_on : IsReclaimingAll V same batch_size roots slot v i lists2 c2
    goes_on =
        subst (λ (x : Scene K V). IsReclaimingAll V same batch_size roots slot x i lists2 c2) (sym on.comes)
        (subst (λ (l : ℕ → List ℕ). IsReclaimingAll V same batch_size roots slot led i l c2) (sym on.lists_are) on.did.next)

    pub is_over : told ≡ settled.Done → OnlyPairsAreLeft V same hash batch_size roots slot v
    is_over done =
        subst (OnlyPairsAreLeft V same hash batch_size roots slot) (sym on.comes)
        (on.did.over done, nothing_else_waits V same same batch_size roots slot on.did.w2 on.did.maps2 s.calls s.makers s.enders on.did.next.stand (on.did.over done) led_theirs)

  -- and all of them
  reclaimed_theirs : (i : ℕ) (s n : Scene K V) (lists : ℕ → List ℕ) (c : ReclaimAll) → IsReclaimingAll V same batch_size roots slot s i lists c → AreTheirs s → (grants : List Grant)
      → ReclaimsTo V same hash batch_size roots slot i grants s lists c n → OnlyPairsAreLeft V same hash batch_size roots slot n
  reclaimed_theirs i s n lists c idle theirs [] never = absurd never
  reclaimed_theirs i s n lists c idle theirs (g ∷ grants) (told, v, lists2, c2, on, inl (done, is)) =
      subst (OnlyPairsAreLeft V same hash batch_size roots slot) is (is_over i s lists c idle theirs g told v lists2 c2 on done)
  reclaimed_theirs i s n lists c idle theirs (g ∷ grants) (told, v, lists2, c2, on, inr more) =
      reclaimed_theirs i v n lists2 c2 (goes_on i s lists c idle theirs g told v lists2 c2 on) (then_theirs i s lists c idle theirs g told v lists2 c2 on) grants more

  -- where a choice of a number comes each is whose it was
  chosen_theirs : (s : Scene K V) (choice : ℕ) → AreTheirs s → AreTheirs (scene_chosen choice s)
  chosen_theirs s choice theirs = theirs

  -- by whatever is done
  by_doing : (p n : Stage V same hash batch_size roots slot) (doing : Doing K V S) → MayDo V same hash batch_size roots slot doing p → (told : Answer K V)
      → HasDone V same hash batch_size roots slot doing p told n → AreTheirs p.0 → AreTheirs n.0
  by_doing p n (Does act) may told (led, idle) theirs = by_act same hash batch_size roots slot p.0 n.0 p.1 n.1 theirs act may.1 told led
  by_doing p n (BeginsReclaiming i) may told (none, is, behind_is, begun) theirs = subst AreTheirs (sym is) theirs
  by_doing p n (BeginsClearing i) may told (none, is, behind_is, begun) theirs = subst AreTheirs (sym is) theirs
  by_doing p n (Chooses choice) may told (none, is, behind_is, idle) theirs = subst AreTheirs (sym is) (chosen_theirs p.0 choice theirs)
  by_doing p n (StepsReclaiming g) may told st theirs =
      then_theirs st.caller p.0 (behind V same hash batch_size roots slot p) st.machine (idle_there p st.caller st.machine st.here) theirs g st.end n.0 st.lists st.next st.did

  module _ (course : Course V same hash batch_size roots slot) where
    pub theirs_on : (x : Reached V same hash batch_size roots slot) (doing : Doing K V S) (may : MayDo V same hash batch_size roots slot doing x.0) → AreTheirs x.0.0
        → AreTheirs (course.next x.0 doing may).0
    theirs_on x doing may theirs = by_doing x.0 (course.next x.0 doing may) doing may (course.told x.0 doing may) (course.leads x.0 doing may) theirs

    all_theirs : (doings : List (Doing K V S)) (x y : Reached V same hash batch_size roots slot) → LedOn V same hash batch_size roots slot course doings x y → AreTheirs x.0.0 → AreTheirs y.0.0
    all_theirs [] x y led theirs = subst (λ (z : Reached V same hash batch_size roots slot). AreTheirs z.0.0) (sym led) theirs
    all_theirs (doing ∷ doings) x y (may, led) theirs = all_theirs doings (on_by V same hash batch_size roots slot course x doing may) y led (theirs_on x doing may theirs)

    pub lists_keep_theirs : ListsPreserveTheirs V same hash batch_size roots slot course
    lists_keep_theirs doings x led = all_theirs doings (nothing_done V same hash batch_size roots slot course) x led none_at_first

    -- while nobody reclaims all, what ended maps have left is behind roots that are nobody's
    left_there : (p : Stage V same hash batch_size roots slot) → reclaiming V same hash batch_size roots slot p ≡ None → (lists : ℕ → List ℕ) × IsLeft roots p.0 lists
    left_there (s, all, inl left) none = left
    left_there (s, all, inr (i, lists, c, reclaims)) none = absurd (cc none)

    pub reclaiming_begins_there : ReclaimingBeginsThere V same hash batch_size roots slot course
    reclaiming_begins_there word doings x came (rest, none) =
        let there = left_there x.0 none in
        let behind = (left_is_left_behind K V roots x.0.0.world x.0.0.maps x.0.0.makers x.0.0.enders there.0 rest.no_makers rest.no_enders).0 there.1 in (
          there.0,
          λ i. reclaiming_begins V same same batch_size roots slot x.0.0.maps x.0.0.calls x.0.0.makers x.0.0.enders x.0.0.world i there.0 word
              (record { together = x.0.1; no_calls = rest.no_calls; no_makers = rest.no_makers; no_enders = rest.no_enders }) rest.rows behind,
        )

    pub only_pairs_wait_there : OnlyPairsWaitThere V same hash batch_size roots slot course
    only_pairs_wait_there doings x led i lists c idle grants n to = reclaimed_theirs i x.0.0 n lists c idle (lists_keep_theirs doings x led) grants to

    pub all_can_be_reclaimed_there : AllCanBeReclaimedThere V same hash batch_size roots slot course
    all_can_be_reclaimed_there word doings x led rest i = by (word_at x.0.0.world.memory (Slot 0 HEAD)) refl
      where
        begins : (lists : ℕ → List ℕ) × ((i : ℕ)
            → (IsSome (word_at x.0.0.world.memory (Slot 0 HEAD)) → IsReclaimingAll V same batch_size roots slot x.0.0 i lists (reclaiming_all batch_size roots))
            × (IsQuiescent x.0.0.world → IsReclaimingAll V same batch_size roots slot x.0.0 i lists (clearing roots))
            × (word_at x.0.0.world.memory (Slot 0 HEAD) ≡ None → IsQuiescent x.0.0.world))
        begins = reclaiming_begins_there word doings x led rest

        from : (c : ReclaimAll) → IsReclaimingAll V same batch_size roots slot x.0.0 i begins.0 c → (lists : ℕ → List ℕ) × (c : ReclaimAll) × (grants : List Grant) × (n : Scene K V)
            × ReclaimsTo V same hash batch_size roots slot i grants x.0.0 lists c n × OnlyPairsAreLeft V same hash batch_size roots slot n
        from c idle =
            let k = reclaiming_comes_to_end V same hash batch_size roots slot i word x.0.0 begins.0 c idle in
            (begins.0, c, k.0, k.1, k.2, only_pairs_wait_there doings x led i begins.0 c idle k.0 k.1 k.2)

        by : (o : Option ℕ) → word_at x.0.0.world.memory (Slot 0 HEAD) ≡ o → (lists : ℕ → List ℕ) × (c : ReclaimAll) × (grants : List Grant) × (n : Scene K V)
            × ReclaimsTo V same hash batch_size roots slot i grants x.0.0 lists c n × OnlyPairsAreLeft V same hash batch_size roots slot n
        by None is = let k = begins.1 i in from (clearing roots) (k.1 (k.2 is))
        by (Some head) is = from (reclaiming_all batch_size roots) ((begins.1 i).0 (ap is_some is))
