-- The seat that owns a map begins to end it, where nobody leans on it: from then on the map does not stand.
use Rattle.std.specs.Prelude.{◌≢◌, ◌∷◌, Option, Some, None}
use Rattle.std.specs.Option.{is_none}
use Rattle.std.proofs.Common.{◌≡◌, ℕ, ◌≤◌, Bool, true, false, [], ◌⊎◌, inl, inr, refl, sym, subst, ap, ◌∙◌}
use Rattle.std.proofs.lemmas.Bool.{cases_eq}
use Rattle.seize.specs.World.{Rests, Ends as EndsOwner}
use Rattle.map_tables.specs.declared.node.Node.{Node}
use Rattle.map_tables.specs.declared.setting.Setting.{Setting}
use Rattle.papaya_raw.specs.EndMap.{ending}
use Rattle.many_acts.specs.Given.CallersTogether.{UnderWay}
use Rattle.many_acts.specs.Given.FinishesEndings.{finishing_of}
use Rattle.many_acts.specs.Given.FinishesMaps.{Standing}
use Rattle.many_acts.specs.Given.ScenesEnding.{ending_begun}
use Rattle.many_acts.specs.Given.ScenesScene.{Scene, slot_of}
use Rattle.many_acts.specs.Acts.Acts.{Act, BeginsEnding}
use Rattle.many_acts.specs.Acts.Doings.{Does, MayDo}
use Rattle.many_acts.specs.Acts.Leads.{AllStand, Led}
use Rattle.many_acts.proofs.Given.CallersTogether.At.{at_same, at_other}
use Rattle.many_acts.proofs.Given.CallersTogether.Slots.{alike_same}
use Rattle.many_acts.specs.Lefts.{left_of}
use Rattle.seize_seats.specs.Seats.Errands.{IsUnlent}
use Rattle.seize_seats.specs.Seats.State.{State, view_of, Goes}
use Rattle.seize_views.specs.declared.view.Fixed.{Fixed}
use Rattle.seize_views.specs.declared.view.SlotView.{SlotView}
use Rattle.seize_views.specs.declared.view.SlotView.TheVariants as slot_view
use Rattle.threads_rule.specs.Views.Begun.{ending_own}
use Rattle.threads_rule.specs.Views.Promises.{EndingsBegin}
use Rattle.threads_rule.specs.Views.Rule.{MapsWorld, HasRow, DoesSo, KnowsMap, Fits, AreSo, Holds, KeepsFor, IsBy, IsFresh, Leans, caller_at, acts_in}
use Rattle.threads_rule.specs.Views.Told.{told}
use Rattle.threads_rule.specs.declared.view.Map.{Map}
use Rattle.threads_rule.specs.declared.view.View.{View}
use Rattle.threads_rule.specs.declared.view.SeatWork.{SeatWork}
use Rattle.threads_rule.specs.declared.view.SeatWork.TheVariants.{Nothing, Calls, Makes, Ends}
use Rattle.threads_rule.proofs.Views.Knows.{knows_rests}
use Rattle.threads_rule.proofs.Views.Leaves.{Leaves, Lasts, own_idle, map_on}
use Rattle.threads_rule.proofs.Views.Listed.{numbered_on}
use Rattle.threads_rule.proofs.Views.Moved.{scene_of, all_stand, are_so, KnowsThen, Moved, same_slot, moved}
use Rattle.threads_rule.proofs.Views.Quiet.{there}
use Rattle.threads_rule.proofs.Views.Whose.{Seated, whose}
use Rattle.seize_words.proofs.General.{same_some}

module _ {K V S : Type 0} (same : K → K → Bool) (hash : S → K → ℕ) (fixed : Fixed) (s : State (Node K V) (View K V S) (MapsWorld K V S)) (h : Holds same hash fixed s)
    (id : ℕ) (v : View K V S) (at_id : view_of s id ≡ Some v) (map : Map S) (rests : v.slot ≡ slot_view.Rests) (free : v.work ≡ Nothing) (owns : v.own ≡ Some map)
    (unlent : IsUnlent Leans id s) where
  abbrev scene : Scene K V
  scene = scene_of same hash fixed s h

  all : AllStand same hash fixed.batch_size fixed.roots slot_of scene
  all = all_stand same hash fixed s h

  so : AreSo same hash s scene
  so = are_so same hash fixed s h

  fits : Fits same hash scene id v
  fits = so.seats id v at_id

  abbrev place : ℕ
  place = acts_in v.under v.slot

  abbrev i : ℕ
  i = caller_at id place

  has_row : HasRow scene i slot_view.Rests
  has_row =
      subst (λ (x : SlotView (Node K V)). HasRow scene i x) rests
      (subst (λ (x : SeatWork K V S). DoesSo same hash scene i v.under v.slot v.map x) free fits.does)

  it : KnowsMap same hash scene (Some map)
  it = subst (λ (o : Option (Map S)). KnowsMap same hash scene o) owns fits.own

  -- who knows the map but by its owner is its owner
  nobody_knows : (k : ℕ) (x : View K V S) → view_of s k ≡ Some x → (a : Map S) → x.map ≡ Some a → a.number ≡ map.number → ⊥
  nobody_knows k x at a e number = unlent k x at (inr (subst (λ (o : Option ℕ). IsBy o id) (sym ((so.maps k id x v map at at_id owns).known a e number)) refl))

  -- so nobody has a call on it
  no_call : (a : ℕ) → scene.calls map.number a ≡ None
  no_call a = elim (whose same hash scene (view_of s) so.seats so.unborn a) as (λ _. scene.calls map.number a ≡ None) [
    | inl idle ↦ idle.calls map.number
    | inr k ↦ by_work k k.knows.work k.knows.map refl k.does
  ]
    where
      by_work : (k : Seated same hash scene (view_of s) so.seats so.unborn a) (work : SeatWork K V S) (known : Option (Map S)) → k.knows.map ≡ known
          → DoesSo same hash scene a k.knows.under k.knows.slot known work → scene.calls map.number a ≡ None
      by_work k Nothing known e d = d.calls map.number
      by_work k (Makes mine m hasher opening) known e d = d.1.calls map.number
      by_work k (Ends machine) known e d = d.1.calls map.number
      by_work k (Calls machine) None e d = absurd d
      by_work k (Calls machine) (Some its) e d = none_of (scene.calls map.number a) refl
        where
          none_of : (o : Option (UnderWay K V K)) → scene.calls map.number a ≡ o → scene.calls map.number a ≡ None
          none_of None is = is
          none_of (Some u) is =
              let call = d.3.here in
              absurd (nobody_knows k.seat k.knows k.here its e (all.makings.standing.once its.number map.number a (λ none. cc (none, call)) (λ none. cc (none, is))))

  may : MayDo V same hash fixed.batch_size fixed.roots slot_of (Does (BeginsEnding i map.number)) h.reached.0
  may = (
    ap is_none h.nobody,
    (
      record { no_call = λ a. ap is_none (has_row.calls a); no_making = ap is_none has_row.makers; no_ending = ap is_none has_row.enders },
      ap is_none it.1,
      λ j. ap is_none (no_call j),
    ),
  )

  led : Led same hash fixed.batch_size fixed.roots slot_of (BeginsEnding i map.number) scene (h.course.told h.reached.0 (Does (BeginsEnding i map.number)) may)
      (h.course.next h.reached.0 (Does (BeginsEnding i map.number)) may).0
  led = (h.course.leads h.reached.0 (Does (BeginsEnding i map.number)) may).0

  abbrev n : Scene K V
  n = ending_begun map.number i led.0 scene

  same_it : it.0 ≡ led.0
  same_it = same_some it.0 led.0 (sym it.1 ∙ led.1)

  abbrev w : View K V S
  w = ending_own v map (left_of (finishing_of led.0 scene.world)).0

  leaves : Leaves same hash fixed.batch_size scene n i None
  leaves = record {
    rows = λ k ne. refl;
    calls = λ a k ne. refl;
    makers = λ k ne. refl;
    enders = λ k ne. at_other scene.enders i (Some (finishing_of led.0 scene.world)) k ne;
    uses = λ t used apart. alike_same (scene.world.uses t);
    ends = Some map.number;
    maps = λ a r lasts is. (r, at_other scene.maps map.number None a (λ e. lasts (ap (λ (x : ℕ). Some x) (sym e))) ∙ is, refl, refl);
    held = λ t b a r apart inside lasts stands owner held. (held, refl, refl);
    made = λ k ne b x made is other. is;
    keeps = λ b its there some. refl;
    passes = λ c ne was now. (EndsOwner i led.0.setting.counter ∷ [], (n.world, tt, refl, now, refl));
  }

  ends_it : leaves.ends ≡ Some map.number
  unfolding leaves
  ends_it = refl

  known_lasts : (o : Option (Map S)) → v.map ≡ o → Lasts same hash scene n id place fits.slot fixed.batch_size None leaves o
  known_lasts None e = tt
  known_lasts (Some a) e = λ ends. nobody_knows id v at_id a e (same_some a.number map.number (sym ends ∙ ends_it))

  knows : KnowsThen same hash fixed s h id v w
  knows = record {
    by = λ m e. (e, refl);
    own = inr (λ j y at e. unlent j y at (inr (subst (λ (o : Option ℕ). IsBy o id) (sym e) refl)));
    map = λ a e. inl (e, refl);
    mine = λ a e. absurd (cc e);
    apart = λ a b e g. absurd (cc g);
  }

  fresh : IsFresh n so.fresh.0
  fresh = (λ a above. by a above (cases_eq a map.number), so.fresh.1.1)
    where
      by : (a : ℕ) → so.fresh.0 ≤ a → (a ≡ map.number) ⊎ (a ≢ map.number) → n.maps a ≡ None
      by a above (inl e) = at_same scene.maps map.number None a e
      by a above (inr ne) = at_other scene.maps map.number None a ne ∙ so.fresh.1.0 a above

  abbrev act : Act K V S
  act = BeginsEnding i map.number

  go : Moved same hash fixed s h id act s.memory w n
  go = record {
    memory = so.memory;
    own = record {
      slot = fits.slot;
      aside = fits.aside;
      does = (
        rests,
        record {
          ending = finishing_of led.0 scene.world;
          here = at_same scene.enders i (Some (finishing_of led.0 scene.world)) i refl;
          is =
              ap (λ (x : Setting). record { machine = ending x false; left = (left_of (finishing_of led.0 scene.world)).0; along = 0 })
              (ap (λ (x : Standing K). x.setting) (sym same_it) ∙ it.2);
          calls = has_row.calls;
        },
        has_row.row,
      );
      map = map_on same hash scene n id place fits.slot fixed.batch_size None leaves v.map (known_lasts v.map refl) fits.map;
      own = tt;
      only = tt;
      held = tt;
      table = λ b x none. absurd (cc none);
      pair = tt;
      idle = own_idle same hash scene n id place fits.slot fixed.batch_size None leaves fits.idle;
    };
    place = place;
    its_slot = fits.slot;
    mine = None;
    leaves = leaves;
    theirs = λ j t a b x ne at uses e. cc e;
    alone = same_slot same hash fixed s h id v w at_id refl;
    under = λ x at. ap (λ (y : View K V S). y.under) (same_some v x (sym at_id ∙ at));
    knows = λ x at. subst (λ (y : View K V S). KnowsThen same hash fixed s h id y w) (same_some v x (sym at_id ∙ at)) knows;
    gone = λ m e. (
      unlent,
      λ x at. (map, ap (λ (y : View K V S). y.own) (sym (same_some v x (sym at_id ∙ at))) ∙ owns, same_some map.number m (sym ends_it ∙ e)),
    );
    leant = inl (refl, λ x at. ap (λ (y : View K V S). y.slot) (same_some v x (sym at_id ∙ at)));
    fresh = (so.fresh.0, fresh, numbered_on s.world.doings (Does act ∷ []) 0 so.fresh.0 so.fresh.0 so.fresh.2 refl);
    row = knows_rests fixed n id v.slot rests;
  }

  begins : Goes (Holds same hash fixed) KeepsFor s s.memory id (λ x. (left : ℕ) × (x ≡ ending_own v map left))
  begins =
      moved same hash fixed s h id v at_id act may n led.3 s.memory w go
      (record { own = ((λ a k. 0), tt); others = λ j ne theirs. refl; its = λ are. are; newest = λ other on. absurd (cc on); aside = λ j ne theirs. refl; seen = λ before b x none. absurd (cc none) })
      (λ x. (left : ℕ) × (x ≡ ending_own v map left)) (_, refl)

module _ {K S : Type 0} (V : Type 0) (same : K → K → Bool) (hash : S → K → ℕ) where
  pub endings_begin : EndingsBegin V same hash
  endings_begin fixed id v map rests free owns s h at_id unlent = begins same hash fixed s h id v at_id map rests free owns unlent
