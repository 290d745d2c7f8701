-- It comes to its end, and rests then, with the tables that it was made with.
use Rattle.std.specs.Prelude.{fold}
use Rattle.owner_calls.proofs.Given.PointsLawful.{are_lawful}
use Rattle.owner_rests.proofs.Rests.Makes.{begins_ends, begins_holds, begins_refused, begins_shown}
use Rattle.owner_calls.proofs.Holds.Changes.{making_holds_none}
use Rattle.owner_rests.proofs.making.begin.Goals as goal

pub run-requires : goal.run-requires
run-requires g c =
    let r = c.requires in
    begins_ends {V = g.row.V.Denot} g.K.PartialEq.eq _
    (are_lawful g.K.PartialEq.eq g.K.Hash.hash_input g.met.K.Eq.laws g.met.K.Hash.respects_eq
    (λ writes. g.S.Hasher.Hasher.finish (fold g.S.Hasher.Hasher.write (g.S.BuildHasher.build_hasher c.args._hasher.now) writes)))
    c.args.slot c.args.places c.max.result c.max.ensures r.initial r.table _ r.history.0 r.history.1 r.history.2 r.root r.used _ c.new-opening.ensures

pub returns-clause-held : goal.returns-clause-held
returns-clause-held g c =
    let r = c.requires in
    begins_holds {V = g.row.V.Denot} g.K.PartialEq.eq _
    (are_lawful g.K.PartialEq.eq g.K.Hash.hash_input g.met.K.Eq.laws g.met.K.Hash.respects_eq
    (λ writes. g.S.Hasher.Hasher.finish (fold g.S.Hasher.Hasher.write (g.S.BuildHasher.build_hasher c.args._hasher.now) writes)))
    c.args.slot c.args.places c.max.result c.max.ensures r.initial r.table _ r.history.0 r.history.1 r.history.2 r.root r.used _ c.new-opening.ensures _ _ _ c.run.ensures

pub returns-clause-tables : goal.returns-clause-tables
returns-clause-tables g c =
    let r = c.requires in
    begins_shown {V = g.row.V.Denot} g.K.PartialEq.eq _
    (are_lawful g.K.PartialEq.eq g.K.Hash.hash_input g.met.K.Eq.laws g.met.K.Hash.respects_eq
    (λ writes. g.S.Hasher.Hasher.finish (fold g.S.Hasher.Hasher.write (g.S.BuildHasher.build_hasher c.args._hasher.now) writes)))
    c.args.slot c.args.places c.max.result c.max.ensures r.initial r.table _ r.history.0 r.history.1 r.history.2 r.root r.used _ c.new-opening.ensures _ _ _ c.run.ensures

pub returns-clause-fault : goal.returns-clause-fault
returns-clause-fault g c =
    let r = c.requires in
    begins_refused {V = g.row.V.Denot} g.K.PartialEq.eq _
    (are_lawful g.K.PartialEq.eq g.K.Hash.hash_input g.met.K.Eq.laws g.met.K.Hash.respects_eq
    (λ writes. g.S.Hasher.Hasher.finish (fold g.S.Hasher.Hasher.write (g.S.BuildHasher.build_hasher c.args._hasher.now) writes)))
    c.args.slot c.args.places c.max.result c.max.ensures r.initial r.table _ r.history.0 r.history.1 r.history.2 r.root r.used _ c.new-opening.ensures _ _ _ c.run.ensures

pub returns-clause-bare : goal.returns-clause-bare
returns-clause-bare g c = λ bare.
    let r = c.requires in
    making_holds_none _ _ bare (
      _,
      _,
      _,
      begins_ends {V = g.row.V.Denot} g.K.PartialEq.eq _
          (are_lawful g.K.PartialEq.eq g.K.Hash.hash_input g.met.K.Eq.laws g.met.K.Hash.respects_eq
          (λ writes. g.S.Hasher.Hasher.finish (fold g.S.Hasher.Hasher.write (g.S.BuildHasher.build_hasher c.args._hasher.now) writes)))
          c.args.slot c.args.places c.max.result c.max.ensures r.initial r.table _ r.history.0 r.history.1 r.history.2 r.root r.used _ c.new-opening.ensures,
      c.run.ensures,
    )
