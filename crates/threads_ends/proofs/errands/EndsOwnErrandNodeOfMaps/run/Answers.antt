use Rattle.std.proofs.Common.{◌≡◌, false, refl, sym, subst, ap, ◌∙◌}
use Rattle.papaya_raw.specs.EndMap.{ending}
use Rattle.papaya_raw.specs.declared.machines.end_map.EndMap.{EndMap}
use Rattle.threads_steps.specs.Given.ActsLefts.{is_along}
use Rattle.threads_steps.specs.Given.ViewsDeclared.view.View.{View}
use Rattle.threads_steps.proofs.Given.Keeping.{kept_same}
use Rattle.threads_ends.specs.Ending.{BeginsEnding, HasEndedOwn, IsEnding}
use Rattle.threads_ends.proofs.Ends.{begun_by, over_then, owns_one}
use Rattle.threads_ends.proofs.errands.EndsOwnErrandNodeOfMaps.run.Goals as goal

pub begins-requires : goal.begins-requires
begins-requires g c = record {
  own = c.requires.0;
  away = c.requires.1;
  rests = c.requires.2.0;
  free = c.requires.2.1;
  owns = owns_one c.args.self.setting c.args.seat.now.view c.requires.2.2;
}

pub ends_by-requires : goal.ends_by-requires
ends_by-requires g c =
    let before : c.new-within.result.seat.now.view ≡ c.begins.new.seat.view = (let was = c.new-within.ensures.seat in cc was) in
    record {
      ends =
          subst (λ (m : EndMap). IsEnding m c.new-within.result.seat.now.view) (sym c.new.ensures)
          (subst (λ (v : View g.row.K.Denot g.row.V.Denot g.row.S.Denot). IsEnding (ending c.args.self.setting false) v) (sym before)
          (begun_by c.args.self.setting c.args.seat.now.view c.begins.new.seat.view c.requires.2.2 c.begins.ensures.begins));
      off = ap (λ (m : EndMap). is_along m.stands) c.new.ensures;
    }

-- the seat is the one that was lent
pub returns : goal.returns
returns g c =
    let s = kept_same _ _ _ _ _ _ _ _ c.ends_by.ensures.same in
    let blocks = s.0 in let name = s.1 in let id = s.2 in let away = s.3 in
    let is = c.seat-1.given.1 (sym (name ∙ c.new-within.ensures.name)) in
    let was = c.new-within.ensures.seat in let own = c.ends_by.new.self.within.own in let first = c.new-within.result.own in
    let begun = c.begins.ensures.same in let base = begun.0 in let same_id = begun.1 in let same_away = begun.2 in
    let before : c.new-within.result.seat.now.view ≡ c.begins.new.seat.view = cc was in
    let after : c.ends_by.new.self.within.seat.now.view ≡ c.seat-1.given.0.view = cc is in (
      cc (is, own, blocks, first, was, base),
      cc (is, id, was, same_id),
      cc (is, away, was, same_away),
      subst (λ (w : View g.row.K.Denot g.row.V.Denot g.row.S.Denot). HasEndedOwn c.args.seat.now.view w) after
          (over_then c.args.seat.now.view c.new-within.result.seat.now.view c.ends_by.new.self.within.seat.now.view
          (subst (λ (v : View g.row.K.Denot g.row.V.Denot g.row.S.Denot). BeginsEnding c.args.seat.now.view v) (sym before) c.begins.ensures.begins) c.ends_by.ensures.stays c.ends_by.ensures.free),
    )
