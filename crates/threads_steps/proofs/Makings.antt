-- A step of the making of a map, of a seat: it may be taken, and the seat knows how far it has come.
use Rattle.std.specs.Prelude.{Option, Some, None, Ok, Err}
use Rattle.std.proofs.Common.{◌≡◌, ℕ, Bool, true, false, refl, subst, ap, ◌∙◌}
use Rattle.seize_words.specs.OneMemory.Op.{Op, Out}
use Rattle.seize_words.specs.OneMemory.Plan.{Plan, May, Steps}
use Rattle.seize.specs.declared.advance.Advance.{Advance}
use Rattle.seize.specs.declared.advance.Advance.TheVariants as progress
use Rattle.seize_words.specs.declared.fault.Fault.{Fault}
use Rattle.map_tables.specs.declared.node.Node.{Node}
use Rattle.map_tables.specs.declared.setting.Setting.{Setting}
use Rattle.map_machines.specs.NewMap.{new_map_plan}
use Rattle.map_machines.specs.declared.new_map.NewMap.{NewMap}
use Rattle.seize_views.specs.Views.Promises.{op_in}
use Rattle.seize_views.specs.Views.Told.{FollowsBy}
use Rattle.seize_views.proofs.Views.Looks.{rest_of}
use Rattle.threads_rule.specs.Views.Looks.{shown_in}
use Rattle.threads_rule.specs.Views.Told.{observed_by, made_after, with_made}
use Rattle.threads_rule.specs.Views.Rule.{side_of}
use Rattle.threads_rule.specs.declared.view.Map.{Map}
use Rattle.threads_rule.specs.declared.view.View.{View}
use Rattle.threads_rule.specs.declared.view.SeatWork.{SeatWork}
use Rattle.threads_rule.specs.declared.view.SeatWork.TheVariants.{Nothing}
use Rattle.threads_rule.proofs.Views.Laws.{makings_go_on}
use Rattle.threads_steps.specs.Made.{CanMake, HasMade, IsSameSeat, shown_of}
use Rattle.threads_rule.specs.Errands.Making.{MakesMap, HasIt, MadeSo, HasComeSo, KnowsAlike, KnowsElse, KnowsStill}
use Rattle.threads_kinds.specs.Makings.{StaysChosen, GetsOn, chosen_of}
use Rattle.threads_steps.specs.declared.within.Within.{Within}
use Rattle.threads_steps.proofs.Calls.{has_alone}
use Rattle.threads_kinds.proofs.Makings.{GoesEarly, tells, is_do, leaves, is_now}
use Rattle.threads_kinds.proofs.CallKinds.Plans.{may_by, was_made, follows_one, now_plain, now_follows, leaves_values}

module _ {K V S : Type 0} (same : K → K → Bool) (hash : S → K → ℕ) (c : Within K V S) (own : Bool) (hasher : S) (opening : NewMap) (is : MakesMap own hasher opening c.seat.now.view) where
  abbrev plan : Plan (Node K V) (NewMap × Advance Setting)
  plan = new_map_plan opening

  makes : (op : Op (Node K V)) → op_in plan ≡ Some op → CanMake same hash c op
  makes op e = record {
    alone = has_alone same hash c op (leaves_values plan op (leaves K V opening opening.stands is.early) e);
    may = makings_go_on V same hash c.blocks.now.words.fixed c.seat.now.id is.number c.seat.now.view own hasher opening op is.works e;
  }

  -- what is told of it, whatever is shown
  pub record Came (n : Within K V S) (out : Out (Node K V)) : Type 0 where
    pub end : NewMap × Advance Setting
    pub follows : FollowsBy (shown_of n) plan out end
    pub view : n.seat.now.view ≡ made_after c.seat.now.view own is.number hasher n.seat.now.view.looks end.0 end.1

  came : (op : Op (Node K V)) (out : Out (Node K V)) (n : Within K V S) → HasMade same hash c op out n → Came n out
  came op out n made =
      let t = subst (λ (k : SeatWork K V S). observed_by same hash c.seat.now.view c.seat.now.view.map k op out n.seat.now.view) is.works made.told in record {
        end = t.0;
        follows = now_follows (shown_in n.seat.now.view.looks) (shown_of n) plan out t.0 (is_now K V opening opening.stands is.early out) t.1;
        view = t.2;
      }

  pub may_make : May (CanMake same hash) (HasMade same hash) shown_of c plan
  may_make =
      may_by (CanMake same hash) (HasMade same hash) shown_of c plan (is_do K V opening opening.stands is.early) makes
      (λ op out n e made. let k = came op out n made in (k.end, k.follows)) (λ out. now_plain (rest_of plan out) (is_now K V opening opening.stands is.early out))

  abbrev made_map : Setting → Map S
  made_map setting = record { number = is.number; setting = setting; hasher = hasher }

  -- once the map is there it is the maker's own, or it is known
  is_made : (o : Bool) (before : Option (Map S)) → (o ≡ true → before ≡ None) → (setting : Setting) (w : View K V S)
      → w ≡ with_made c.seat.now.view o before (made_map setting) w.looks → HasIt o hasher setting w × KnowsElse o c.seat.now.view w
  is_made true None yet setting w view = (
    record { number = is.number; free = ap (λ (v : View K V S). v.work) view; owns = ap (λ (v : View K V S). v.own) view },
    (ap (λ (v : View K V S). v.map) view, ap (λ (v : View K V S). v.by) view),
  )
  is_made true (Some other) yet setting w view = absurd (cc (yet refl))
  is_made false before yet setting w view = (
    record { number = is.number; free = ap (λ (v : View K V S). v.work) view; knows = ap (λ (v : View K V S). v.map) view },
    (ap (λ (v : View K V S). v.by) view, ap (λ (v : View K V S). v.own) view),
  )

  -- it stands where it stood then
  stays_made : (o : Bool) (before : Option (Map S)) (setting : Setting) (w : View K V S) → w ≡ with_made c.seat.now.view o before (made_map setting) w.looks
      → (side_of w ≡ side_of c.seat.now.view) × (w.calls ≡ c.seat.now.view.calls)
  stays_made true None setting w view = (ap (λ (v : View K V S). side_of v) view, ap (λ (v : View K V S). v.calls) view)
  stays_made true (Some other) setting w view = (ap (λ (v : View K V S). side_of v) view, ap (λ (v : View K V S). v.calls) view)
  stays_made false before setting w view = (ap (λ (v : View K V S). side_of v) view, ap (λ (v : View K V S). v.calls) view)

  so_far : (n : Within K V S) (end : NewMap × Advance Setting) → n.seat.now.view ≡ made_after c.seat.now.view own is.number hasher n.seat.now.view.looks end.0 end.1 → GoesEarly end
      → MadeSo own hasher end.0 end.1 n.seat.now.view × KnowsStill own end.1 c.seat.now.view n.seat.now.view × (side_of n.seat.now.view ≡ side_of c.seat.now.view)
      × (n.seat.now.view.calls ≡ c.seat.now.view.calls)
  so_far n (d, progress.Goes) view early = (
    record {
      number = is.number;
      works = ap (λ (v : View K V S). v.work) view;
      early = early.0;
      none = early.1;
      yet = λ o. ap (λ (v : View K V S). v.own) view ∙ is.yet o;
    },
    (ap (λ (v : View K V S). v.map) view, ap (λ (v : View K V S). v.by) view, ap (λ (v : View K V S). v.own) view),
    ap (λ (v : View K V S). side_of v) view,
    ap (λ (v : View K V S). v.calls) view,
  )
  so_far n (d, progress.Waits) view none = absurd none
  so_far n (d, progress.Done setting) view early =
      let made = is_made own c.seat.now.view.own is.yet setting n.seat.now.view view in
      let stays = stays_made own c.seat.now.view.own setting n.seat.now.view view in (made.0, made.1, stays.0, stays.1)
  so_far n (d, progress.Refused fault) view early = (
    ap (λ (v : View K V S). v.work) view,
    (ap (λ (v : View K V S). v.map) view, ap (λ (v : View K V S). v.by) view, ap (λ (v : View K V S). v.own) view),
    ap (λ (v : View K V S). side_of v) view,
    ap (λ (v : View K V S). v.calls) view,
  )

  -- what a step has come to
  pub record Got (n : Within K V S) (end : NewMap × Advance Setting) : Type 0 where
    pub made : MadeSo own hasher end.0 end.1 n.seat.now.view
    pub knows : KnowsStill own end.1 c.seat.now.view n.seat.now.view
    pub slot : side_of n.seat.now.view ≡ side_of c.seat.now.view
    pub calls : n.seat.now.view.calls ≡ c.seat.now.view.calls
    pub chosen : StaysChosen opening end.0 end.1
    pub left : GetsOn opening end.0 end.1
    pub seat : IsSameSeat c n

  pub has_made : (n : Within K V S) (end : NewMap × Advance Setting) → Steps (HasMade same hash) shown_of c plan n end → Got n end
  has_made n end st =
      let k = was_made (CanMake same hash) (HasMade same hash) shown_of c plan n end (is_do K V opening opening.stands is.early) st in
      let t = came k.0 k.1 n k.3 in
      let one : t.end ≡ end = follows_one (shown_of n) plan k.1 t.end end t.follows k.4 in
      let view = t.view ∙ ap (λ (e : NewMap × Advance Setting). made_after c.seat.now.view own is.number hasher n.seat.now.view.looks e.0 e.1) one in
      let so = tells opening is.none (shown_of n) is.early k.0 k.1 end k.2 k.3.fits k.4 in
      let s = so_far n end view so.0 in record { made = s.0; knows = s.1; slot = s.2; calls = s.3; chosen = so.1; left = so.2; seat = k.3.seat }

-- what a making has come to, where its last step has told this
module _ {K V S : Type 0} (hasher : S) (opening : NewMap) (v u w : View K V S) (alike : KnowsAlike v u) (slot : side_of w ≡ side_of v) (calls : w.calls ≡ v.calls) where
  pub is_done : (own : Bool) (setting : Setting) → HasIt own hasher setting w → chosen_of setting ≡ chosen_of opening.setting → KnowsElse own u w → HasComeSo own hasher opening (Ok setting) v w
  is_done true setting made chosen knows = record { made = (made, chosen); refused = tt; slot = slot; map = knows.0 ∙ alike.0; by = knows.1 ∙ alike.1; calls = calls }
  is_done false setting made chosen knows = record { made = (made, chosen); refused = tt; slot = slot; good = λ e. knows.0; calls = calls }

  pub is_refused : (own : Bool) (fault : Fault) → (own ≡ true → v.own ≡ None) → w.work ≡ Nothing → KnowsAlike u w → HasComeSo own hasher opening (Err fault) v w
  is_refused true fault yet free knows =
      record { made = tt; refused = (free, knows.2 ∙ alike.2 ∙ yet refl); slot = slot; map = knows.0 ∙ alike.0; by = knows.1 ∙ alike.1; calls = calls }
  is_refused false fault yet free knows =
      record { made = tt; refused = (free, knows.0 ∙ alike.0); slot = slot; good = λ e. knows.1 ∙ alike.1 ∙ e; calls = calls }
