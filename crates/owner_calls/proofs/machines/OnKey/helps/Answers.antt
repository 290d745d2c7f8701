-- The steps of the copying are those of the call.
use Rattle.std.proofs.Common.{refl, sym, subst}
use Rattle.papaya_raw.specs.declared.machines.call.Calling.{Calling}
use Rattle.owner_whole.specs.Strides.Ending.{Ends, Strides}
use Rattle.owner_calls.specs.Owned.Inside.{helping}
use Rattle.owner_calls.specs.Owned.Machines.{on_key_plan}
use Rattle.owner_calls.proofs.Owned.Inner.{helps_into}
use Rattle.owner_calls.proofs.machines.OnKey.helps.Goals as goal

pub copies-told-requires : goal.copies-told-requires
copies-told-requires g c = (
  c.args.self.now,
  c.in-Helps.goal,
  refl,
  subst (λ (stands : Calling). Ends (on_key_plan {V = g.row.V.Denot} g.Q.Equivalent.equivalent g.K.PartialEq.eq g.S.Hashes.hash) (record c.args.self.now { call = record c.args.self.now.call { stands = stands } }) c.args.memory.now)
      c.in-Helps.is c.requires.ends,
)

pub returns : goal.returns
returns g c =
    let plan = on_key_plan {V = g.row.V.Denot} g.Q.Equivalent.equivalent g.K.PartialEq.eq g.S.Hashes.hash in
    let e = c.copies-told.ensures c.args.self.now c.in-Helps.goal refl in
    subst (λ (stands : Calling). Strides plan (record c.args.self.now { call = record c.args.self.now.call { stands = stands } }) c.args.memory.now c.copies-told.new.memory (c.helped.new.self, c.helped.result))
    (sym c.in-Helps.is) (
      helping c.args.self.now c.in-Helps.goal e.0,
      e.1,
      e.2,
      helps_into g.Q.Equivalent.equivalent g.K.PartialEq.eq g.S.Hashes.hash e.1 c.args.self.now c.in-Helps.goal e.0 c.copies-told.new.memory _ c.copies-told.result _
          (c.helped.ensures c.args.self.now c.copies-told.new.copier refl) e.3,
    )
