-- Where a step of a call has led, its own seat knows what is so.
use Rattle.std.specs.Prelude.{◌≢◌, Option, Some, None}
use Rattle.std.proofs.Common.{◌≡◌, ℕ, Bool, true, ◌⊎◌, inl, inr, refl, sym, subst, ap, ◌∙◌}
use Rattle.std.proofs.lemmas.Bool.{cases_eq}
use Rattle.seize_words.specs.OneMemory.Mem.{Mem, value_at}
use Rattle.seize.specs.Law.{holds, owner_of}
use Rattle.seize.specs.World.{Rests, IsInside}
use Rattle.map_tables.specs.Nodes.{deferred_word}
use Rattle.map_tables.specs.declared.node.Node.{Node}
use Rattle.papaya_raw.specs.declared.machines.machine.Machine.{Machine}
use Rattle.papaya_raw.specs.declared.machines.progress.Progress.{Progress}
use Rattle.papaya_raw.specs.declared.machines.progress.Progress.TheVariants as progress
use Rattle.many_acts.specs.Given.CallersRows.{IsRowOn}
use Rattle.many_acts.specs.Given.CallersTogether.{UnderWay}
use Rattle.many_acts.specs.Given.FinishesEndings.{Finishing}
use Rattle.many_acts.specs.Given.FinishesMachines.{machine_of, MachineStepsWithEndings, ContinuesAs}
use Rattle.many_acts.specs.Given.FinishesMakings.{Beginning}
use Rattle.many_acts.specs.Given.FinishesMaps.{Standing, IsSameMap, with_call}
use Rattle.many_acts.specs.Given.ScenesScene.{Scene, slot_of}
use Rattle.many_acts.specs.Acts.Leads.{AllStand}
use Rattle.many_acts.proofs.Given.CallersTogether.Came.{came_reached}
use Rattle.seize_model.proofs.Alone.Histories.Reached.{Reached}
use Rattle.seize_views.specs.Views.Rows.{row_of, use_of}
use Rattle.seize_views.specs.declared.view.SlotView.{SlotView}
use Rattle.threads_rule.specs.Views.Rule.{HasRow, IsSlot, IsUsedSo, IsAside, DoesSo, caller_at, section_of, IsFresh}
use Rattle.threads_rule.specs.Views.Told.{call_after}
use Rattle.threads_rule.specs.declared.view.Map.{Map}
use Rattle.threads_rule.specs.declared.view.SeatWork.TheVariants.{Calls}
use Rattle.threads_rule.proofs.Views.Made.{call_keeps}
use Rattle.threads_rule.proofs.Views.Numbers.{slot_at}
use Rattle.threads_rule.proofs.Views.Ran.{Ran, ran_stays, ran_keeps, ran_passes}
use Rattle.threads_rule.proofs.Views.Sections.{calls_ran}
use Rattle.threads_rule.proofs.Views.Leaves.{Leaves, own_section, section_on, inside_alike, call_here, call_other, call_elsewhere}
use Rattle.seize_words.proofs.General.{same_some}

module _ {K V S : Type 0} (same : K → K → Bool) (hash : S → K → ℕ) (batch_size roots : ℕ) (s : Scene K V) (all : AllStand same hash batch_size roots slot_of s) (id t m : ℕ)
    (its_slot : IsSlot t) (it : Standing K) (stands : s.maps m ≡ Some it) (u : UnderWay K V K) (here : s.calls m (caller_at id t) ≡ Some u) where
  abbrev i : ℕ
  i = caller_at id t

  -- whoever has a call makes no map and ends none, and has no other call

  none_made : (o : Option (Beginning K)) → s.makers i ≡ o → s.makers i ≡ None
  none_made None e = e
  none_made (Some b) e = let a = all.makings.alone i b e m in absurd (cc (a, here))

  none_ended : (o : Option (Finishing K V)) → s.enders i ≡ o → s.enders i ≡ None
  none_ended None e = e
  none_ended (Some f) e = let a = (all.alone i f e).0 m in absurd (cc (a, here))

  only : (n : ℕ) → n ≢ m → (o : Option (UnderWay K V K)) → s.calls n i ≡ o → s.calls n i ≡ None
  only n ne None e = e
  only n ne (Some x) e = absurd (ne (all.makings.standing.once n m i (λ none. cc (none, e)) (λ none. cc (none, here))))

  module _ (inside : IsInside (s.world.uses t)) (on_row : IsRowOn t (s.world.row i)) (m2 : Mem (Node K V)) (machine : Machine K V K) (told : Progress (Node K V))
      (did : MachineStepsWithEndings V same same batch_size roots slot_of s.world s.maps s.calls s.makers s.enders m it (caller_at id t) m2 u machine told) where
    abbrev pub after : Scene K V
    after = record { world = did.w2; maps = did.maps2; calls = with_call s.calls m i did.next; makers = s.makers; enders = s.enders }

    r : Reached deferred_word batch_size s.world
    r = came_reached batch_size s.world all.makings.standing.came

    ran : Ran deferred_word batch_size i s.world did.w2
    ran = calls_ran same hash batch_size roots slot_of s all m it stands i u m2 machine told did

    pub step_leaves : Leaves same hash batch_size s after i None
    step_leaves = record {
      rows = did.rows;
      calls = λ n k ne. call_other s.calls m i did.next n k ne;
      makers = λ k ne. refl;
      enders = λ k ne. refl;
      uses = λ a used apart. did.slots.uses a;
      ends = None;
      maps = λ n r lasts is. maps n r is (cases_eq n m);
      held = λ a b n r2 apart is lasts stood owner held. (ran_stays deferred_word batch_size i s.world did.w2 r ran a is).1 b held;
      made = λ k ne. call_keeps same hash batch_size roots s all m it stands i u m2 machine told did k ne;
      keeps = ran_keeps deferred_word batch_size i s.world did.w2 r ran;
      passes = λ c ne. ran_passes deferred_word batch_size i c ne s.world did.w2 r ran;
    }
      where
        maps : (n : ℕ) (r : Standing K) → s.maps n ≡ Some r → (n ≡ m) ⊎ (n ≢ m) → (r2 : Standing K) × (did.maps2 n ≡ Some r2) × (r2.setting ≡ r.setting) × (r2.hash ≡ r.hash)
        maps n r is (inl e) =
            let g = did.its_map in
            let one = same_some r it (sym is ∙ ap s.maps e ∙ stands) in
            (record it { chart = g.0; blocks = g.1; sights = g.2 }, ap did.maps2 e ∙ g.4, ap (λ (x : Standing K). x.setting) (sym one), ap (λ (x : Standing K). x.hash) (sym one))
        maps n r is (inr ne) =
            let g = subst (λ (o : Option (Standing K)). IsSameMap o (did.maps2 n)) is (did.others n ne) in (record r { blocks = g.0; sights = g.1 }, g.2, refl, refl)

    pub none_ends : step_leaves.ends ≡ None
    unfolding step_leaves
    none_ends = refl

    -- what a section holds it holds still
    pub step_held : (a : ℕ) → IsInside (s.world.uses a) → (b : ℕ) → holds a b s.world.log ≡ true
        → (holds a b did.w2.log ≡ true) × (owner_of b did.w2.log ≡ owner_of b s.world.log) × (value_at did.w2.memory b ≡ value_at s.world.memory b)
    step_held a is b held = (ran_stays deferred_word batch_size i s.world did.w2 r ran a is).1 b held

    -- no further map has come
    pub step_fresh : (k : ℕ) → IsFresh s k → IsFresh after k
    step_fresh k f = (λ n above. none n (f.0 n above) (cases_eq n m), f.1)
      where
        none : (n : ℕ) → s.maps n ≡ None → (n ≡ m) ⊎ (n ≢ m) → did.maps2 n ≡ None
        none n is (inl e) = let no = sym (ap s.maps e) ∙ is in absurd (cc (no, stands))
        none n is (inr ne) = subst (λ (o : Option (Standing K)). IsSameMap o (did.maps2 n)) is (did.others n ne)

    module _ (under : Option (ℕ × ℕ)) (slot : SlotView (Node K V)) (aside : IsAside under slot) (section : section_of under slot ≡ Some t) where
      within : IsInside (did.w2.uses t)
      within = section_on same hash s after id t its_slot batch_size None step_leaves t (λ a e. cc e) inside

      -- its slot is used so, if it holds one, and no row is under way
      used : (under : Option (ℕ × ℕ)) → IsAside under slot → section_of under slot ≡ Some t → IsUsedSo did.w2 (use_of slot) × (row_of slot ≡ Rests)
      used None aside section =
          let is = own_section slot t section in (
            subst (λ (x : SlotView (Node K V)). IsUsedSo did.w2 (use_of x)) (sym is) (inside_alike (did.w2.uses t) within),
            ap (λ (x : SlotView (Node K V)). row_of x) is,
          )
      used (Some leant) aside section = (subst (λ (x : SlotView (Node K V)). IsUsedSo did.w2 (use_of x)) (sym aside) tt, ap (λ (x : SlotView (Node K V)). row_of x) aside)

      -- once the call has ended its caller has nothing under way
      ended : did.next ≡ None → HasRow after i slot
      ended none = record {
        row = did.rests none ∙ sym (used under aside section).1;
        slot = (used under aside section).0;
        calls = λ n. calls_none n (cases_eq n m);
        makers = none_made (s.makers i) refl;
        enders = none_ended (s.enders i) refl;
      }
        where
          calls_none : (n : ℕ) → (n ≡ m) ⊎ (n ≢ m) → with_call s.calls m i did.next n i ≡ None
          calls_none n (inl e) = ap (λ (a : ℕ). with_call s.calls m i did.next a i) e ∙ call_here s.calls m i did.next ∙ none
          calls_none n (inr ne) = call_elsewhere s.calls m i did.next n ne ∙ only n ne (s.calls n i) refl

      at_slot : slot_of i ≡ t
      at_slot = slot_at id t its_slot

      -- or it goes on
      goes_as : (map : Map S) → map.number ≡ m → (x : UnderWay K V K) → did.next ≡ Some x → machine_of x ≡ machine
          → DoesSo same hash after i under slot (Some map) (Calls machine)
      goes_as map number x is one = (
        t,
        section,
        within,
        record { call = x; here = ap (λ (a : ℕ). with_call s.calls m i did.next a i) number ∙ call_here s.calls m i did.next ∙ is; is = one },
        subst (λ (a : ℕ). IsRowOn a (did.w2.row i)) at_slot (did.slots.on_slot (subst (λ (a : ℕ). IsRowOn a (s.world.row i)) (sym at_slot) on_row)),
      )

      pub own_does : (map : Map S) → map.number ≡ m → (end : Progress (Node K V)) → ContinuesAs machine end did.next
          → DoesSo same hash after i under slot (Some map) (call_after machine end)
      own_does map number (progress.Done answer) on = ended on
      own_does map number (progress.Refused fault) on = ended on
      own_does map number _ on = goes_as map number on.0 on.1 on.2
