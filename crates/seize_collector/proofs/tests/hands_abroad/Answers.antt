use Rattle.std.specs.Prelude.{Result, Ok, Err, IfOk, IfErr}
use Rattle.std.specs.Result.{result_ok}
use Rattle.std.proofs.Common.{◌≡◌, ℕ, Some, arith, sym, subst}
use Rattle.seize_collector.proofs.tests.hands_abroad.Goals as goal

-- what is so of what an answer holds
ok_of : {A B : Type 0} (r : Result A B) (P : A → Type 0) (y : A) → Some y ≡ result_ok r → IfOk r P → P y
ok_of (Ok x) P y e p = let same : y ≡ x = cc e in subst P (sym same) p
ok_of (Err z) P y e p = absurd (cc e)

refused_on : {A B : Type 0} (r : Result A B) (P Q : B → Type 0) → ((y : B) → P y → Q y) → IfErr r P → IfErr r Q
refused_on (Ok x) P Q on p = p
refused_on (Err y) P Q on p = on y p

-- the numbers differ
pub retire-requires : goal.retire-requires
retire-requires c =
    let a = c.in_ok-old-in-Ok.ensures.some.1 in let k = c.in-Ok.ensures.number in
    let b = ok_of c.make.result (λ owned. owned.number ≡ c.args.one.now.number) c.in_ok-second.second c.in_ok-second.ensures.value c.make.ensures.number in
    let f = ok_of c.register.result (λ it. it.number ≡ c.args.other.now.number) c.in_ok-foreign.foreign c.in_ok-foreign.ensures.value c.register.ensures.number in
    record { source = λ e. absurd (grind (arith, a, k, b, f, e, c.number.ensures, c.number-2.ensures, c.if-number.false)) }

-- the block comes back as it was, and is of the memory of its own registration
pub goes_home-requires-clause-home : goal.goes_home-requires-clause-home
goes_home-requires-clause-home c =
    let a = c.in_ok-old-in-Ok.ensures.some.0 in let k = c.in-Ok.ensures.home in
    let b = ok_of c.make.result (λ owned. owned.caller.blocks.now ≡ c.args.one.now.blocks.now) c.in_ok-second.second c.in_ok-second.ensures.value c.make.ensures.home in
    let o = ok_of c.register-2.result (λ it. it.stay.caller.blocks.now ≡ c.args.one.now.blocks.now) c.in_ok-own.own c.in_ok-own.ensures.value c.register-2.ensures.home in
    refused_on c.retire.result _ _ (λ y p. cc (p.0, a, k, b, o)) c.retire.ensures.back

pub goes_home-requires-clause-number : goal.goes_home-requires-clause-number
goes_home-requires-clause-number c =
    let a = c.in_ok-old-in-Ok.ensures.some.1 in let k = c.in-Ok.ensures.number in
    let b = ok_of c.make.result (λ owned. owned.number ≡ c.args.one.now.number) c.in_ok-second.second c.in_ok-second.ensures.value c.make.ensures.number in
    let o = ok_of c.register-2.result (λ it. it.number ≡ c.args.one.now.number) c.in_ok-own.own c.in_ok-own.ensures.value c.register-2.ensures.number in
    refused_on c.retire.result _ _ (λ y p. cc (p.0, a, k, b, o)) c.retire.ensures.back
