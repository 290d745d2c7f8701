use Rattle.std.specs.Prelude.{None, Ok}
use Rattle.std.proofs.Common.{sym, subst, ◌∙◌}
use Rattle.papaya_raw.specs.declared.machines.call.KeyCall.{KeyCall}
use Rattle.papaya_raw.specs.declared.machines.machine.Machine.TheVariants.{Key}
use Rattle.papaya_raw.specs.declared.machines.progress.Answer.TheVariants.{Key as OfKey}
use Rattle.threads_steps.specs.Given.ErrandsCalling.{wanted_of}
use Rattle.threads_steps.specs.Storing.{first, making}
use Rattle.threads_steps.proofs.Given.ErrandsBeginnings.{stays_on}
use Rattle.threads_steps.proofs.Given.ErrandsRuns.{comes_back, same_pair}
use Rattle.threads_steps.proofs.Pausing.{ended_on}
use Rattle.threads_errands.specs.Puts.{HasStored}
use Rattle.threads_errands.specs.declared.ahead.storing.Put.{Put}
use Rattle.threads_errands.proofs.Puts.{ahead_here, has_called}
use Rattle.threads_errands.proofs.storing.stores.Goals as goal

pub puts-put-requires-clause-own : goal.puts-put-requires-clause-own
puts-put-requires-clause-own g c = c.begins.ensures.same.0 ∙ c.requires.own

pub puts-put-requires-clause-away : goal.puts-put-requires-clause-away
puts-put-requires-clause-away g c = λ none. c.requires.away (sym c.begins.ensures.same.2 ∙ none)

pub puts-put-requires-clause-ahead : goal.puts-put-requires-clause-ahead
puts-put-requires-clause-ahead g c = let x = c.args in
    ahead_here g.K.PartialEq.eq g.S.Hashes.hash x.hasher.now (making x.setting x.hash x.there x.pair) c.begins.new.seat.view c.begins.ensures.calls

-- straight code has gone all the way
pub returns-in-Answered-clause-called : goal.returns-in-Answered-clause-called
returns-in-Answered-clause-called g c =
    let x = c.args in let from : KeyCall g.row.K.Denot g.row.V.Denot g.row.K.Denot = making x.setting x.hash x.there x.pair in let wanted = wanted_of (Key from) in
    let v = x.seat.now.view in let w = c.begins.new.seat.view in let u = c.puts-put.new.seat.view in
    let s = subst (λ (p : Put g.row.K.Denot g.row.V.Denot). HasStored g.K.PartialEq.eq g.S.Hashes.hash x.hasher.now x.setting x.hash x.there from p w u) c.in-Answered.is c.puts-put.ensures.stored in
    has_called g.K.PartialEq.eq g.S.Hashes.hash wanted (Ok (OfKey c.in-Answered.answer)) None v w u c.begins.ensures.begun s.0 s.1
    (comes_back g.K.PartialEq.eq g.S.Hashes.hash wanted (Ok (OfKey c.in-Answered.answer)) None v w c.begins.ensures.begun
    (λ pair its began. s.2 pair (first (Key from) None (c.requires.may.stores pair its))))

pub returns-in-Answered-clause-same : goal.returns-in-Answered-clause-same
returns-in-Answered-clause-same g c = let p = c.puts-put.ensures.same in let b = c.begins.ensures.same in (p.0 ∙ b.0, p.1 ∙ b.1, p.2 ∙ b.2)

-- or the rest by steps
pub goes_on-requires-clause-own : goal.goes_on-requires-clause-own
goes_on-requires-clause-own g c = c.puts-put.ensures.same.0 ∙ c.begins.ensures.same.0 ∙ c.requires.own

pub goes_on-requires-clause-away : goal.goes_on-requires-clause-away
goes_on-requires-clause-away g c = λ none. c.requires.away (sym c.begins.ensures.same.2 ∙ sym c.puts-put.ensures.same.2 ∙ none)

pub goes_on-requires-clause-ahead : goal.goes_on-requires-clause-ahead
goes_on-requires-clause-ahead g c =
    let x = c.args in let from : KeyCall g.row.K.Denot g.row.V.Denot g.row.K.Denot = making x.setting x.hash x.there x.pair in let w = c.begins.new.seat.view in let u = c.puts-put.new.seat.view in
    (subst (λ (p : Put g.row.K.Denot g.row.V.Denot). HasStored g.K.PartialEq.eq g.S.Hashes.hash x.hasher.now x.setting x.hash x.there from p w u) c.in-Stands.is c.puts-put.ensures.stored).0.0

pub returns-in-Stands-clause-called : goal.returns-in-Stands-clause-called
returns-in-Stands-clause-called g c =
    let x = c.args in let from : KeyCall g.row.K.Denot g.row.V.Denot g.row.K.Denot = making x.setting x.hash x.there x.pair in let wanted = wanted_of (Key from) in let e = c.goes_on.ensures in
    let v = x.seat.now.view in let w = c.begins.new.seat.view in let u = c.puts-put.new.seat.view in let z = c.goes_on.new.seat.view in
    let s = subst (λ (p : Put g.row.K.Denot g.row.V.Denot). HasStored g.K.PartialEq.eq g.S.Hashes.hash x.hasher.now x.setting x.hash x.there from p w u) c.in-Stands.is c.puts-put.ensures.stored in
    has_called g.K.PartialEq.eq g.S.Hashes.hash wanted c.goes_on.result.told c.goes_on.result.unstored v w z c.begins.ensures.begun
    (ended_on c.goes_on.result.told w u z s.0.2 e.ended) (stays_on w u z s.0.1 e.stays)
    (comes_back g.K.PartialEq.eq g.S.Hashes.hash wanted c.goes_on.result.told c.goes_on.result.unstored v w c.begins.ensures.begun
    (λ pair its began. e.back pair (s.1 pair (first (Key from) None (c.requires.may.stores pair its))) (same_pair w u s.0.2 ∙ began)))

pub returns-in-Stands-clause-same : goal.returns-in-Stands-clause-same
returns-in-Stands-clause-same g c =
    let r = c.goes_on.ensures.same in let p = c.puts-put.ensures.same in let b = c.begins.ensures.same in (r.0 ∙ p.0 ∙ b.0, r.1 ∙ p.1 ∙ b.1, r.2 ∙ p.2 ∙ b.2)

-- or memory was refused
pub gives_back-requires-clause-own : goal.gives_back-requires-clause-own
gives_back-requires-clause-own g c = c.puts-put.ensures.same.0 ∙ c.begins.ensures.same.0 ∙ c.requires.own

pub gives_back-requires-clause-away : goal.gives_back-requires-clause-away
gives_back-requires-clause-away g c = λ none. c.requires.away (sym c.begins.ensures.same.2 ∙ sym c.puts-put.ensures.same.2 ∙ none)

pub gives_back-requires-clause-ahead : goal.gives_back-requires-clause-ahead
gives_back-requires-clause-ahead g c =
    let x = c.args in let from : KeyCall g.row.K.Denot g.row.V.Denot g.row.K.Denot = making x.setting x.hash x.there x.pair in let w = c.begins.new.seat.view in let u = c.puts-put.new.seat.view in
    (subst (λ (p : Put g.row.K.Denot g.row.V.Denot). HasStored g.K.PartialEq.eq g.S.Hashes.hash x.hasher.now x.setting x.hash x.there from p w u) c.in-Back.is c.puts-put.ensures.stored).0.0

pub returns-in-Back-clause-called : goal.returns-in-Back-clause-called
returns-in-Back-clause-called g c =
    let x = c.args in let from : KeyCall g.row.K.Denot g.row.V.Denot g.row.K.Denot = making x.setting x.hash x.there x.pair in let wanted = wanted_of (Key from) in let e = c.gives_back.ensures in
    let v = x.seat.now.view in let w = c.begins.new.seat.view in let u = c.puts-put.new.seat.view in let z = c.gives_back.new.seat.view in
    let s = subst (λ (p : Put g.row.K.Denot g.row.V.Denot). HasStored g.K.PartialEq.eq g.S.Hashes.hash x.hasher.now x.setting x.hash x.there from p w u) c.in-Back.is c.puts-put.ensures.stored in
    has_called g.K.PartialEq.eq g.S.Hashes.hash wanted c.gives_back.result.told c.gives_back.result.unstored v w z c.begins.ensures.begun
    (ended_on c.gives_back.result.told w u z s.0.2 e.ended) (stays_on w u z s.0.1 e.stays)
    (comes_back g.K.PartialEq.eq g.S.Hashes.hash wanted c.gives_back.result.told c.gives_back.result.unstored v w c.begins.ensures.begun
    (λ pair its began. e.back pair (s.1 pair began (first (Key from) None (c.requires.may.stores pair its))) (same_pair w u s.0.2 ∙ began)))

pub returns-in-Back-clause-same : goal.returns-in-Back-clause-same
returns-in-Back-clause-same g c =
    let r = c.gives_back.ensures.same in let p = c.puts-put.ensures.same in let b = c.begins.ensures.same in (r.0 ∙ p.0 ∙ b.0, r.1 ∙ p.1 ∙ b.1, r.2 ∙ p.2 ∙ b.2)
