-- The walk over the tables of a map shows each.
use Rattle.std.specs.Prelude.{◌-◌, ◌^◌, map}
use Rattle.std.proofs.lemmas.List.{map-append}
use Rattle.std.proofs.Common.{arith, ap, length, length-append, ◌≡◌, ◌+◌, ◌∙◌, ◌<◌, ◌++◌, ◌∷◌, [], List, sym}
use Rattle.run_schedules.specs.declared.shapes.TableShape.{TableShape}
use Rattle.map_straight.proofs.Shown.Chain.{walk_begins, walk_linked, walk_goes, walk_ends}
use Rattle.play_scheduler.specs.Shapes.{shape_of}
use Rattle.play_scheduler.proofs.shapes.shapes.Goals as goal

pub loop-next-init : goal.loop-next-init
loop-next-init g c = λ same hash chart blocks stands. ([], walk_begins chart blocks c.root_of-next.result (c.root_of-next.ensures same hash chart blocks stands), c.new-shapes.ensures.items)

pub table_behind-next-requires : goal.table_behind-next-requires
table_behind-next-requires g c =
    let r = c.requires in
    let w = c.loop-next.invariant r.0 r.1 r.2 r.3 r.4 in
    let l = walk_linked r.2 r.3 c.loop-next.next w.0 w.1 c.in-Some.table c.in-Some.is in
    (r.0, r.1, r.2, r.3, r.4, l.0, l.1, l.2)

pub loop-next-smaller : goal.loop-next-smaller
loop-next-smaller g c =
    let new : length c.push.new.self.items ≡ length c.loop-next.shapes.items + 1 = ap (λ (l : List TableShape). length l) c.in_ok-push.ensures.items ∙ length-append c.loop-next.shapes.items _ in
    let a = c.push.new.self.ok in
    let b = c.push.new.self.small in
    let h : 2 ^ 64 - length c.push.new.self.items < 2 ^ 64 - length c.loop-next.shapes.items = omega (arith, new, a.0, a.1, b) in
    h

pub loop-next-preserved : goal.loop-next-preserved
loop-next-preserved g c = λ same hash chart blocks stands.
    let w = c.loop-next.invariant same hash chart blocks stands in
    let l = walk_linked chart blocks c.loop-next.next w.0 w.1 c.in-Some.table c.in-Some.is in (
      w.0 ++ c.in-Some.table ∷ [],
      walk_goes chart blocks c.loop-next.next w.0 w.1 c.in-Some.table c.in-Some.is c.table_behind-next.result (c.table_behind-next.ensures same hash chart blocks stands l.0 l.1 l.2),
      c.in_ok-push.ensures.items ∙ ap (λ (l : List TableShape). l ++ c.shape_of.result ∷ []) w.2 ∙ ap (λ (x : TableShape). map shape_of w.0 ++ x ∷ []) c.shape_of.ensures
          ∙ sym (map-append shape_of w.0 (c.in-Some.table ∷ [])),
    )

pub returns : goal.returns
returns g c = λ same hash chart blocks stands.
    let w = c.loop-next.invariant same hash chart blocks stands in
    w.2 ∙ ap (map shape_of) (walk_ends chart blocks c.loop-next.next w.0 w.1 c.in_default.is)
