-- `renew` ends the lifetime of the memory and begins another one, and takes no step of the machine.
use Rattle.seize_atoms.specs.Visiting.{Seen, HoldsSince, keeps_here, seat_coded}
use Rattle.seize_seats.specs.Seats.Errands.{RenewsIdle}
use Rattle.seize_seats.specs.Seats.Start.{WasIdle}
use Rattle.seize_words.specs.OneMemory.Mem.{Mem}
use Rattle.seize_seats.specs.Seats.State.{State}
use Rattle.seize_seats.specs.Seats.Visits.{plain_memory}
use Rattle.seize_atoms.proofs.Allowed.{renew_allowed, was_idle}
use Rattle.std.proofs.Common.{◌≡◌, ℕ, List, [], ◌∷◌, refl}
use mir.Syntax.{dcons, dnil, a_type, named}
use mir.MapTy.{inst_fn}
use mir.Val.{Val, vptr, vunit}
use base.Logic.{SProp, emp}
use base.Fml.{Fml, Incl-trans, ftrue, fsep, flft}
use types.Kit.{‵, raw, ◌⊛◌, given, later, ◌$◌, ◌∵◌, !, qed, by, move, keep, split, join, fsplit, fsplit3, fjoin, fjoin3, learn, use0, use2, await, feq_i, some as items, pick}
use types.Run.{of_opd, unit_lit, returns, enter}
use types.ByLocal.{alloc_all, pass_all, free_all, look_at, sets, env}
use contract.Running.{tables}
use contract.Monad.{fact, fact_i}
use denote.RattleType.{RattleType, owns}
use denote.Signature.{types_at, plain}
use denote.RawPtr.{Ptr}
use denote.Steps.{nothing, heard, opens, closes}
use denote.Param.{param, bounded}
use denote.Param.Laws.{Laws, param_laws}
use denote.Ref.{mut_vals, mut_Tells}
use denote.Triple.Walked.{Stays, stay_ref, walk_of, Goes-ref}
use Rattle.std.proofs.raw_atomic.Walks.{proved, leaves}
use Rattle.seize_seats.specs.Seats.Owned.{BaseId, IsLike, words_own}
use Rattle.seize_seats.proofs.Seats.Renewal.{renews, WasFound}
use Rattle.seize_atoms.specs.contracts.words.StripWords as words
use Rattle.seize_atoms.specs.contracts.words.StripWords.renew.{ended, clauses}
use Rattle.seize_atoms.specs.contracts.words.StripWords.renew.Key.{name as #self}
use Rattle.seize_atoms.proofs.words.StripWords.renew.Statement.{statement}
use Rattle.seize_atoms.proofs.words.StripWords.renew.Code as code
use contract.BorrowLft.{◌⊑◌}
use Rattle.core.proofs.once.Steps.{option_lives}
use Rattle.seize_atoms.proofs.Lives.{kept_lives}
use Rattle.core.proofs.option.Option.TheLaws.{the_row_laws as option_laws}
use Rattle.core.specs.contracts.option.Option.{the_row as OptionOf}
use Rattle.seize_seats.specs.contracts.kept.Kept as kept_of
use Rattle.seize_seats.proofs.kept.Kept.TheLaws.{the_row_laws as kept_laws}
use Rattle.seize_seats.specs.Plots.Pieces.{kept_words, value_of}

pub renew_spec : {M : Type 1} → statement M
renew_spec 𝓤 𝓛 𝓜 𝓡 wired X P U F LX LP LU LF g d _ =
    let H = 𝓛.H in let 𝓣 = tables 𝓤 H 𝓜 𝓡 𝓡.env in let R₀ : RattleType = param 0 X in let K₀ : RattleType = kept_of.the_row R₀ in let R₁ : RattleType = param 1 P in let R₂ : RattleType = param 2 U in
    let R₃ : RattleType = param 3 F in
    let En = ended X P U F g d in let c = clauses X P U F g d 𝓛 𝓜.mem 𝓡.returns in
    let inst = bounded (a_type ∷ a_type ∷ a_type ∷ a_type ∷ []) (X, (P, (U, (F, tt)))) (dcons d dnil) in let fn = inst_fn inst code.function in
    let Row : RattleType = words.the_row R₀ R₁ R₂ R₃ g in let O : RattleType = OptionOf K₀ in let LO : Laws O = option_laws K₀ (kept_laws R₀ (param_laws 0 X LX)) in
    let self = plain (λ _. Row) in let hs : Stays En.signature.params En.kept = (stay_ref (0 ∷ []) tt self, tt) in
    proved 𝓛 En hs c 𝓜 𝓡 (Goes-ref 𝓛 5 0 tt self, tt)
    (#self inst) fn (code.unfolded 𝓤 H 𝓜 𝓡 wired (X, (P, (U, (F, tt)))) d)
    (λ κs. (mut_vals, tt)) (λ κs. (mut_Tells (named 0) κs.0 Row, tt)) (λ κs qs bounds a gh are.
    let b : ℕ = a.0.ref_ptr.0 in let o : ℕ = a.0.ref_ptr.1 in let t : Row.Denot = a.0.now in let p : Ptr = t.words in let z : BaseId = t.id in
    let cv = seat_coded R₂.coded in let rule = g.holds t.fixed in let holds = HoldsSince g.rests g.leans t.start rule g.keeps in let keeps = keeps_here g.keeps in
    let rest : Fml = fsep (flft κs.1.1.0 qs.1.1.0) (fsep (flft κs.1.1.1.0 qs.1.1.1.0) (fsep (flft κs.1.1.1.1.0 qs.1.1.1.1.0) ftrue)) in
    let St : Type 0 = State K₀.Denot (Seen U.Denot) g.World in let after = λ (s : St). HoldsSince g.rests g.leans (plain_memory value_of s.memory) rule g.keeps in let Knows : List (Seen U.Denot) → Type 0 = λ _. Unit {0} in
    let others : Fml = fsep (flft κs.1.0 qs.1.0) rest in let Asked : Type 0 = RenewsIdle g.rests rule in
    let y : (walk_of 𝓛 En hs c).Ghost = ((κs, qs, bounds, a, (vptr b o ∷ [], tt)), gh) in
    let Post : Val → SProp 𝓤 = (walk_of 𝓛 En hs c).post y in
    qed 𝓛 (((‵ (flft κs.0 qs.0) ⊛ ‵ others) ⊛ ‵ (owns (types_at En.signature.params κs) a y.0.4)) ∷ raw (fact 𝓤 (κs.1.0 ⊑ X.lives)) ∷ raw (fact 𝓤 _) ∷
    raw (fact 𝓤 _) ∷ raw (fact 𝓤 _) ∷ raw (fact 𝓤 Asked) ∷ []) ∵
    keep ! (5 ∷ 1 ∷ 0 ∷ []) $ heard ! Asked (λ asked. heard ! (κs.1.0 ⊑ X.lives) (λ inc. split ! $ split ! $ move ! (2 ∷ []) $ fsplit ! $ fsplit3 ! $
    -- [self, by two; its token; the others]
    keep ! (1 ∷ 2 ∷ 4 ∷ 5 ∷ []) $
    enter ! 𝓣.C 𝓣.Λ fn (vptr b o ∷ []) Post $ alloc_all ! (λ l. pass_all ! refl ((tt, tt), tt) $ let Ev = env fn.locals l in
    opens ! tt Row b o (λ ts. move ! (1 ∷ []) $ fsplit ! $
    -- [the fields; the memory; four of self; the others]
    move ! (6 ∷ []) $ fsplit ! $ move ! (3 ∷ 0 ∷ []) $
    use2 𝓛 (later (items (λ (u : BaseId × St). given (IsLike u.0 z × WasFound cv.away holds Knows u.1) (‵ (words_own K₀ kept_words cv (after u.1) p u.0))) ⊛ ‵ (flft κs.1.0 qs.1.0)))
    (renews 𝓛 K₀ kept_words cv holds after p z (renew_allowed g.rests g.leans g.upright rule g.keeps t.start asked) κs.1.0 qs.1.0 (LO.shares 𝓛) (Incl-trans inc (Incl-trans (kept_lives R₀) (option_lives K₀)))) $ await ! tt $ split ! $ pick ! (λ u. learn ! (λ like.
    -- [the memory; the type's token; the rest; the fields; four of self]
    let m : Mem X.Denot = plain_memory value_of u.1.memory in let t' : Row.Denot = record { words = p; marker = t.marker; id = u.0; fixed = t.fixed; start = m } in
    let Told : Type 0 = (p ≡ p) × (t.fixed ≡ t.fixed) × IsLike u.0 z × WasIdle g.rests rule m in
    move ! (1 ∷ 2 ∷ []) $ fjoin ! $ move ! (2 ∷ 1 ∷ []) $ fjoin ! $ move ! (2 ∷ 0 ∷ 3 ∷ 4 ∷ 5 ∷ []) $ closes ! tt Row t' ts b o $
    feq_i ! (List Val) (vptr b o ∷ []) (vptr b o ∷ []) refl $ fjoin3 ! $ nothing ! $ move ! (1 ∷ 0 ∷ []) $ fjoin ! $ move ! (1 ∷ 2 ∷ []) $ join ! $
    sets ! (of_opd ! (unit_lit !)) refl (tt, tt) $ feq_i ! (List Val) (vunit ∷ []) (vunit ∷ []) refl $
    use0 𝓛 (raw (fact 𝓤 Told)) (fact_i 𝓤 Told (emp 𝓤) (refl, refl, like.0, was_idle g.rests g.leans g.upright rule g.keeps t.start u.1 like.1.0 like.1.1)) $
    returns ! (look_at ! 0 refl) $ free_all ! refl $ keep ! (2 ∷ 3 ∷ 1 ∷ 0 ∷ []) $ by ! (leaves 𝓛 En hs c y vunit tt (t', tt) (tt, tt)))))))))
