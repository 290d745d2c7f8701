-- In which order a step reclaims by which all is reclaimed; and that what is left over is behind a root still.
use Rattle.std.specs.Prelude.{◌≡◌, ◌≢◌, ◌⊎◌, ◌<◌, ◌+◌, ◌==◌, ℕ, Bool, true, false, List, [], ◌∷◌, ◌++◌, length, map, flat_map, None, if◌then◌else◌}
use Rattle.std.proofs.Common.{refl, ap, sym, subst, append_assoc, ◌∙◌, arith, inl, inr}
use Rattle.std.proofs.lemmas.Bool.{eq-eqb, ne_eqb}
use Rattle.std.proofs.lemmas.Grind.{flat_map-append}
use Rattle.std.proofs.lemmas.List.{append-nil}
use Rattle.std.proofs.lemmas.List.Concat.{flat_map-cons}
use Rattle.run_grows.specs.Given.SeizeWordsMem.{value_at}
use Rattle.run_grows.specs.Given.SeizeLaw.{is_retired}
use Rattle.run_grows.specs.Given.SeizeSequence.{taken_in}
use Rattle.run_grows.specs.Given.SeizeWorld.{World, times, with_at}
use Rattle.run_grows.specs.Given.SeizeDeclared.rows.reclaim_all.ReclaimAll.{ReclaimAll}
use Rattle.run_grows.specs.Given.SeizeDeclared.rows.settle.Settled.{Settled}
use Rattle.run_grows.specs.Given.SeizeSetsReclaims.{is_on_slots}
use Rattle.run_grows.specs.Given.TablesNodes.{deferred_word}
use Rattle.run_grows.specs.Given.TablesDeclared.node.Node.{Node}
use Rattle.run_grows.specs.Given.RunsDeclared.effect.Effect.{Effect}
use Rattle.run_grows.specs.Given.RunsDeclared.effect.Effect.TheVariants.{Reclaimed}
use Rattle.run_grows.specs.Given.RunsDeclared.effect.Thing.{Thing}
use Rattle.run_grows.specs.Given.SchedulesEffects.{with_effects}
use Rattle.run_grows.specs.Given.SchedulesLists.{is_among}
use Rattle.run_grows.specs.Given.SchedulesModel.{thing_back}
use Rattle.run_grows.specs.Given.SchedulesMoment.{GivenBack, Handed, Moment}
use Rattle.run_grows.specs.Given.SchedulesViews.{behind as behind_table}
use Rattle.run_grows.specs.Given.EffectsDeclared.changed.Changed.{Changed}
use Rattle.run_grows.specs.Given.EffectsDeclared.changed.Changed.TheVariants as changed
use Rattle.run_grows.proofs.Given.CallersTogether.At.{at_same}
use Rattle.run_grows.specs.Given.EffectsEffects.{effects_of, known_after}
use Rattle.run_grows.specs.Given.EffectsKnown.{Known}
use Rattle.run_grows.specs.Given.EffectsDeclared.acting.Acting.TheVariants.{Row}
use Rattle.run_grows.specs.Given.EffectsDeclared.role.Role.{Role}
use Rattle.run_grows.specs.Given.EffectsDeclared.role.Role.TheVariants as role
use Rattle.run_grows.specs.Given.FollowsBlocks.{HasRole}
use Rattle.run_grows.specs.Given.FollowsSteps.{TakesNone}
use Rattle.run_grows.proofs.Given.FollowsAlike.{put_elsewhere}
use Rattle.run_grows.proofs.Given.FollowsOperations.{LeavesBy}
use Rattle.run_grows.specs.Given.MomentsWhole.{RefinesWhole}
use Rattle.run_grows.proofs.Given.MomentsOnSlots.{none_some}
use Rattle.run_grows.specs.Given.SeizeReclaimsRoots.{all_lists}
use Rattle.run_grows.specs.Given.ReclaimsSlots.{IsQuiescent}
use Rattle.run_grows.proofs.Given.SeizeQuietSlots.Facts.{nothing_left}
use Rattle.run_grows.specs.Given.ScenesReclaiming.{IsReclaiming, ReclaimingLeads}
use Rattle.run_grows.proofs.Given.ShedsReclaiming.Steps.{left as leaves_there}
use Rattle.run_grows.specs.Given.KeptKept.{RefinesKept}
use Rattle.run_grows.specs.Given.ModelsNumbers.{things_of}
use Rattle.run_grows.proofs.Given.ModelsOnSlots.{noted_still as still_noted}
use Rattle.run_grows.specs.Given.FindsOrderly.{is_left_over}
use Rattle.run_legal.specs.AllEvents.{LeftIsBehindRoots, TakesInTurn}
use Rattle.run_legal.proofs.OfAll.Points.{first_taken, quiet_there, root_there, stays_off, takes_there}
use Rattle.run_legal.proofs.OfAll.Tells.{HasDone, gone_by, has_done, it_reclaims, none_gone, noted_or_free, noted_still}
use Rattle.run_grows.specs.Given.ScenesHeld.{Held}
use Rattle.run_grows.specs.Given.ScenesScene.{Scene}

no_longer : (b : ℕ) (xs : List ℕ) → xs ≡ b ∷ xs → ⊥
no_longer b xs e = (let long : length xs ≡ length (b ∷ xs) = ap length e in absurd (omega (arith, long)))

-- so many reclaimings reclaim these
all_back : (xs : List Thing) → flat_map thing_back (map Reclaimed xs) ≡ xs
all_back [] = refl
all_back (y ∷ ys) = flat_map-cons thing_back (Reclaimed y) (map Reclaimed ys) ∙ ap (λ (zs : List Thing). y ∷ zs) (all_back ys)

-- a block that is not the first one is among the others
among_rest : (d b : ℕ) (xs : List ℕ) → d ≢ b → 0 < times d (b ∷ xs) → 0 < times d xs
among_rest d b xs ne l = (let more : 0 < 0 + times d xs = subst (λ (q : Bool). 0 < (if q then 1 else 0) + times d xs) (ne_eqb d b ne) l in omega (arith, more))

module _ {K V : Type 0} (v : Moment K V) (n : ℕ) where
  abbrev IsLeftAfter : Role → Type 0
  IsLeftAfter r = is_left_over ((with_effects None None (map Reclaimed (things_of r)) v).place n) ≡ true

  -- a pair that is left over once a block is reclaimed was so before, and was not in that block
  left_back : (r : Role) → IsLeftAfter r → (is_left_over (v.place n) ≡ true) × (r ≡ role.Pair n → ⊥)
  left_back role.Free over = (over, λ e. cc e)
  left_back (role.OwnPair j) over = (over, λ e. cc e)
  left_back (role.OwnTable turn shape) over = (over, λ e. cc e)
  left_back (role.Counter of) over = (over, λ e. cc e)
  left_back (role.Pair k) over = by (n == k) refl over
    where
      by : (q : Bool) → (n == k) ≡ q → is_left_over (if q then GivenBack else v.place n) ≡ true → (is_left_over (v.place n) ≡ true) × (role.Pair k ≡ role.Pair n → ⊥)
      by true e back = absurd (cc back)
      by false e back = (back, λ same. (let number : k ≡ n = cc same in let so = eq-eqb n k (sym number) in cc (so, e)))
  left_back (role.Table t len) over = by (is_among n (behind_table t v.deferred)) over
    where
      by : (q : Bool) → is_left_over (if q then Handed else v.place n) ≡ true → (is_left_over (v.place n) ≡ true) × (role.Table t len ≡ role.Pair n → ⊥)
      by true back = absurd (cc back)
      by false back = (back, λ e. cc e)

module _ {K V : Type 0} (same : K → K → Bool) (hash : ℕ → K → ℕ) (name : ℕ → List ℕ) (m : Moment K V) (known : Known) (s : Scene K V) (whole : RefinesWhole same name m known s)
    (kept : RefinesKept name m known s) (old new : Held K V) (i : ℕ) (lists : ℕ → List ℕ) (before after : ReclaimAll) (told : Settled (Node K V)) (under_way : IsReclaiming same hash old s i lists before)
    (leads : ReclaimingLeads same hash s i lists old new before after told) (roots : ℕ) (roots_are : old.roots ≡ roots) (on_slots : is_on_slots before.stands ≡ true → leads.1.lists2 ≡ lists) where
  abbrev x : Changed
  x = new.changed

  abbrev w : World (Node K V)
  w = s.world

  abbrev w2 : World (Node K V)
  w2 = leads.1.w2

  abbrev lists2 : ℕ → List ℕ
  lists2 = leads.1.lists2

  abbrev effects : List Effect
  effects = effects_of Row known x

  -- once it is on roots nothing is retired
  none_retired : is_on_slots before.stands ≡ false → (b : ℕ) → is_retired b w.log ≡ true → ⊥
  none_retired off b retired =
      (let quiet : IsQuiescent w = quiet_there old.batch_size old.roots i before w s.maps lists before.stands off under_way.under_way.point in
      let none = (nothing_left deferred_word old.batch_size under_way.small w under_way.under_way.stand.together.makings.standing.came quiet).1 b in cc (retired, none))

  off_then : is_on_slots before.stands ≡ false → is_on_slots after.stands ≡ false
  off_then off = stays_off old.memory new.memory x before (after, told) off before.stands off leads.0

  -- it takes none; or, on slots, one that was retired; or, on roots, the first one behind them
  abbrev pub TakesFromSlots : ℕ → Type 0
  TakesFromSlots b = (is_on_slots before.stands ≡ true) × (taken_in w2.log ≡ taken_in w.log ++ b ∷ []) × (lists2 ≡ lists) × (is_retired b w.log ≡ true)

  abbrev pub TakesFromRoots : ℕ → Type 0
  TakesFromRoots b = (is_on_slots before.stands ≡ false) × (taken_in w2.log ≡ taken_in w.log) × (all_lists lists roots ≡ b ∷ all_lists lists2 roots)

  abbrev pub HasTurned : Type 0
  HasTurned = (TakesNone x × (lists2 ≡ lists) × (taken_in w2.log ≡ taken_in w.log)) ⊎ ((b : ℕ) × (x ≡ changed.Took b) × (TakesFromSlots b ⊎ TakesFromRoots b))

  pub has_turned : HasTurned
  has_turned = by (has_done same hash name m known s whole kept old new i lists before after told under_way leads)
    where
      retired : (b : ℕ) → x ≡ changed.Took b → is_retired b w.log ≡ true → taken_in w2.log ≡ taken_in w.log ++ b ∷ [] → lists2 ≡ lists → (q : Bool) → is_on_slots before.stands ≡ q → HasTurned
      retired b took is taken same_lists true on = inr (b, took, inl (on, taken, same_lists, is))
      retired b took is taken same_lists false off = absurd (none_retired off b is)

      behind_root : (b : ℕ) → x ≡ changed.Took b → (root : ℕ) (rest : List ℕ) → ((r : ℕ) → r < root → lists r ≡ []) → lists root ≡ b ∷ rest → lists2 ≡ with_at lists root rest
          → taken_in w2.log ≡ taken_in w.log → (q : Bool) → is_on_slots before.stands ≡ q → HasTurned
      behind_root b took root rest first here then_lists taken true on =
          absurd (no_longer b rest (sym (at_same lists root rest root refl) ∙ ap (λ (ls : ℕ → List ℕ). ls root) (sym then_lists ∙ on_slots on) ∙ here))
      behind_root b took root rest first here then_lists taken false off =
          let there = takes_there old.memory new.memory x before (after, told) before.stands off leads.0 b took in
          let low : root < old.roots = root_there old.batch_size old.roots i before w s.maps lists before.stands there under_way.under_way.point root b rest first here in
          let below : root < roots = subst (λ (k : ℕ). root < k) roots_are low in
          inr (b, took, inr (off, taken, first_taken lists root b rest first here roots below ∙ ap (λ (ls : ℕ → List ℕ). b ∷ all_lists ls roots) (sym then_lists)))

      by : HasDone same hash name m known s whole kept old new i lists before after told under_way leads → HasTurned
      by (inl (none, same_lists, taken)) = inl (none, same_lists, taken)
      by (inr (b, took, inl (is, taken, same_lists))) = retired b took is taken same_lists (is_on_slots before.stands) refl
      by (inr (b, took, inr (root, rest, first, here, then_lists, taken))) = behind_root b took root rest first here then_lists taken (is_on_slots before.stands) refl

  -- Things are reclaimed in turn.
  module _ (first : Known) (began : World (Node K V)) (behind : ℕ → List ℕ) (done : List Effect) (turn : TakesInTurn roots first began behind done known s.world before lists) where
    abbrev things : ℕ → List Thing
    things b = things_of (first.roles b)

    -- a block that is taken away was noted as at first
    as_first : (b : ℕ) → x ≡ changed.Took b → known.roles b ≡ first.roles b
    as_first b took = by (turn.noted b)
      where
        by : (known.roles b ≡ first.roles b) ⊎ (known.roles b ≡ role.Free) → known.roles b ≡ first.roles b
        by (inl e) = e
        by (inr free) =
            let gone = subst (LeavesBy w.memory w2.memory) took (leaves_there same hash name m known s whole old new i lists before after told under_way leads) in
            absurd (none_some (value_at w.memory b) gone.0 (subst (λ (r : Role). HasRole w m.stored b r) free (whole.all.shown.blocks.roles b)))

    gone_is : (b : ℕ) → x ≡ changed.Took b → gone_by known x ≡ flat_map things (b ∷ [])
    gone_is b took = ap (gone_by known) took ∙ ap things_of (as_first b took) ∙ sym (flat_map-cons things b [] ∙ append-nil (things b))

    more : flat_map thing_back (done ++ effects) ≡ flat_map thing_back done ++ gone_by known x
    more =
        flat_map-append thing_back done effects
        ∙ ap (λ (xs : List Thing). flat_map thing_back done ++ xs)
        (ap (flat_map thing_back) (it_reclaims same hash name m known s whole kept old new i lists before after told under_way leads) ∙ all_back (gone_by known x))

    still_first : is_on_slots after.stands ≡ true → turn.gone ≡ []
    still_first on = by (is_on_slots before.stands) refl
      where
        by : (q : Bool) → is_on_slots before.stands ≡ q → turn.gone ≡ []
        by true was = turn.slots_first was
        by false was = absurd (let off = off_then was in cc (on, off))

    noted_then : (b : ℕ) → ((known_after Row x known).roles b ≡ first.roles b) ⊎ ((known_after Row x known).roles b ≡ role.Free)
    noted_then b =
        still_noted (known.roles b) (first.roles b) ((known_after Row x known).roles b) (turn.noted b)
        (noted_or_free same hash name m known s whole kept old new i lists before after told under_way leads b)

    abbrev Turned : Type 0
    Turned = TakesInTurn roots first began behind (done ++ effects) (known_after Row x known) w2 after lists2

    none_taken : TakesNone x → lists2 ≡ lists → taken_in w2.log ≡ taken_in w.log → Turned
    none_taken none same_lists taken = record {
      back = turn.back;
      gone = turn.gone;
      taken = taken ∙ turn.taken;
      order = turn.order ∙ ap (λ (ls : ℕ → List ℕ). turn.gone ++ all_lists ls roots) (sym same_lists);
      reclaimed = more ∙ ap (λ (xs : List Thing). flat_map thing_back done ++ xs) (none_gone known x none) ∙ append-nil (flat_map thing_back done) ∙ turn.reclaimed;
      slots_first = still_first;
      noted = noted_then;
    }

    slot_taken : (b : ℕ) → x ≡ changed.Took b → TakesFromSlots b → Turned
    slot_taken b took (on, taken, same_lists, is) =
        let none : turn.gone ≡ [] = turn.slots_first on in
        let was : flat_map thing_back done ≡ flat_map things turn.back =
        turn.reclaimed ∙ ap (λ (ys : List ℕ). flat_map things (turn.back ++ ys)) none ∙ ap (flat_map things) (append-nil turn.back) in
        record {
          back = turn.back ++ b ∷ [];
          gone = [];
          taken = taken ∙ ap (λ (xs : List ℕ). xs ++ b ∷ []) turn.taken ∙ append_assoc (taken_in began.log) turn.back (b ∷ []);
          order = turn.order ∙ ap (λ (xs : List ℕ). xs ++ all_lists lists roots) none ∙ ap (λ (ls : ℕ → List ℕ). all_lists ls roots) (sym same_lists);
          reclaimed =
              more ∙ ap (λ (xs : List Thing). xs ++ gone_by known x) was ∙ ap (λ (xs : List Thing). flat_map things turn.back ++ xs) (gone_is b took)
              ∙ sym (flat_map-append things turn.back (b ∷ [])) ∙ ap (flat_map things) (sym (append-nil (turn.back ++ b ∷ [])));
          slots_first = λ on_then. refl;
          noted = noted_then;
        }

    root_taken : (b : ℕ) → x ≡ changed.Took b → TakesFromRoots b → Turned
    root_taken b took (off, taken, listed) = record {
      back = turn.back;
      gone = turn.gone ++ b ∷ [];
      taken = taken ∙ turn.taken;
      order = turn.order ∙ ap (λ (xs : List ℕ). turn.gone ++ xs) listed ∙ sym (append_assoc turn.gone (b ∷ []) (all_lists lists2 roots));
      reclaimed =
          more ∙ ap (λ (xs : List Thing). xs ++ gone_by known x) turn.reclaimed ∙ ap (λ (xs : List Thing). flat_map things (turn.back ++ turn.gone) ++ xs) (gone_is b took)
          ∙ sym (flat_map-append things (turn.back ++ turn.gone) (b ∷ [])) ∙ ap (flat_map things) (append_assoc turn.back turn.gone (b ∷ []));
      slots_first = λ on. absurd (let off2 = off_then off in cc (on, off2));
      noted = noted_then;
    }

    pub takes_in_turn : Turned
    takes_in_turn = by has_turned
      where
        by : HasTurned → Turned
        by (inl (none, same_lists, taken)) = none_taken none same_lists taken
        by (inr (b, took, inl it)) = slot_taken b took it
        by (inr (b, took, inr it)) = root_taken b took it

  -- What is left over is behind a root still.
  pub left_stays : LeftIsBehindRoots roots m known lists → LeftIsBehindRoots roots (with_effects None None effects m) (known_after Row x known) lists2
  left_stays left n over = by has_turned
    where
      IsBehind : Type 0
      IsBehind = (b : ℕ) × ((known_after Row x known).roles b ≡ role.Pair n) × (0 < times b (all_lists lists2 roots))

      reclaims : effects ≡ map Reclaimed (gone_by known x)
      reclaims = it_reclaims same hash name m known s whole kept old new i lists before after told under_way leads

      over_by : (things : List Thing) → gone_by known x ≡ things → is_left_over ((with_effects None None (map Reclaimed things) m).place n) ≡ true
      over_by things are = subst (λ (fs : List Effect). is_left_over ((with_effects None None fs m).place n) ≡ true) (reclaims ∙ ap (map Reclaimed) are) over

      elsewhere : (b : ℕ) → x ≡ changed.Took b → ((d : ℕ) → d ≢ b → 0 < times d (all_lists lists roots) → 0 < times d (all_lists lists2 roots)) → IsBehind
      elsewhere b took stays =
          let was = left_back m n (known.roles b) (over_by (things_of (known.roles b)) (ap (gone_by known) took)) in
          let had = left n was.0 in
          let other : had.0 ≢ b = (λ e. was.1 (ap known.roles (sym e) ∙ had.1)) in
          (had.0, ap (λ (y : Changed). (known_after Row y known).roles had.0) took ∙ (put_elsewhere b role.Free known.roles had.0 other ∙ had.1), stays had.0 other had.2)

      by : HasTurned → IsBehind
      by (inl (none, same_lists, taken)) =
          let had = left n (over_by [] (none_gone known x none)) in (
            had.0,
            noted_still same hash name m known s whole kept old new i lists before after told under_way leads none had.0 ∙ had.1,
            subst (λ (ls : ℕ → List ℕ). 0 < times had.0 (all_lists ls roots)) (sym same_lists) had.2,
          )
      by (inr (b, took, inl (on, taken, same_lists, is))) = elsewhere b took (λ d ne l. subst (λ (ls : ℕ → List ℕ). 0 < times d (all_lists ls roots)) (sym same_lists) l)
      by (inr (b, took, inr (off, taken, listed))) =
          elsewhere b took (λ d ne l. among_rest d b (all_lists lists2 roots) ne (subst (λ (xs : List ℕ). 0 < times d xs) listed l))
