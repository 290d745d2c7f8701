-- `by` takes the address of a strip for that of words: what lasts is told by the words, and where they lie by the strip.
use Rattle.seize_atoms.specs.Visiting.{HoldsSince, keeps_here, seat_coded}
use Rattle.std.proofs.Common.{◌≡◌, ℕ, List, [], ◌∷◌, sym, refl, ap}
use mir.Syntax.{dcons, dnil, a_type, named}
use mir.MapTy.{inst_fn}
use mir.Val.{Val, vptr}
use base.Logic.{SProp, emp, id⊢}
use base.Fml.{Lft, Fml, ftrue, fsep, flft, fhide, fbor, fshr_bor}
use types.Kit.{‵, raw, ◌⊛◌, at_ret, ◌$◌, ◌∵◌, !, qed, by, move, keep, drop, split, join, fsplit, fsplit3, fjoin, use0, use1, use2, rewrite, feq_i}
use types.Run.{stop, addr, of_opd, first, blocks, exec, returns, enter}
use types.ByLocal.{alloc_all, pass_all, free_all, look_at, get, through, sets, sets_last, env}
use contract.Running.{tables}
use contract.Monad.{fact, fact_i}
use denote.Exit.{yes}
use denote.RattleType.{RattleType, owns}
use denote.Signature.{types_at, plain}
use denote.RawPtr.{Ptr, InBlock}
use denote.Ref.{shr_vals, shr_Tells}
use denote.Steps.{nothing, heard}
use denote.Opens.{unhide}
use denote.Memory.{hidden_shr}
use denote.Param.{param, bounded}
use denote.Builtin.{RefOf}
use denote.Struct.Struct.{Struct}
use denote.Struct.Owning.{shape}
use denote.Struct.Tuple.{Tuple}
use denote.Struct.Lending.{lent_out}
use denote.Triple.Walked.{Stays, stay_dropped, walk_of, Goes-dropped}
use Rattle.core.proofs.atomic.Steps.{tail}
use Rattle.std.specs.contracts.marker.PhantomData as marker
use Rattle.std.proofs.raw_atomic.Walks.{proved, leaves}
use Rattle.seize_seats.specs.Seats.Stretches.{IsEven, invariant}
use Rattle.seize_seats.specs.Seats.Owned.{Core, BaseId, core_of, everything, strip_known, words_share}
use Rattle.seize_seats.proofs.Seats.Views.Shown.{told_there}
use Rattle.seize_atoms.specs.contracts.words.StripWords as words
use Rattle.seize_atoms.specs.contracts.strip.Strip as strip
use Rattle.seize_atoms.proofs.Fields.{Data}
use Rattle.seize_atoms.specs.contracts.words.StripWords.by.{ended, clauses}
use Rattle.seize_atoms.specs.contracts.words.StripWords.by.Key.{name as #self}
use Rattle.seize_atoms.proofs.words.StripWords.by.Statement.{statement}
use Rattle.seize_atoms.proofs.words.StripWords.by.Code as code
use Rattle.seize_seats.specs.contracts.kept.Kept as kept_of
use Rattle.seize_seats.specs.Plots.Pieces.{kept_words}

pub by_spec : {M : Type 1} → statement M
by_spec 𝓤 𝓛 𝓜 𝓡 wired X P U F LX LP LU LF g d _ =
    let H = 𝓛.H in let 𝓣 = tables 𝓤 H 𝓜 𝓡 𝓡.env in let R₀ : RattleType = param 0 X in let K₀ : RattleType = kept_of.the_row R₀ in let R₁ : RattleType = param 1 P in let R₂ : RattleType = param 2 U in
    let R₃ : RattleType = param 3 F in
    let En = ended X P U F g d in let c = clauses X P U F g d 𝓛 𝓜.mem 𝓡.returns in
    let inst = bounded (a_type ∷ a_type ∷ a_type ∷ a_type ∷ []) (X, (P, (U, (F, tt)))) (dcons d dnil) in let fn = inst_fn inst code.function in
    let Row : RattleType = words.the_row R₀ R₁ R₂ R₃ g in let St : RattleType = strip.the_row R₀ in let D : RattleType = Data R₀ R₁ R₂ R₃ g in
    let Ds : RattleType = Struct (shape (strip.the_type R₀)) in
    let self = RefOf (0 ∷ []) tt (plain (λ _. Row)) (λ _. tt) in let other = RefOf (0 ∷ []) tt (plain (λ _. St)) (λ _. tt) in
    let hs : Stays En.signature.params En.kept = (stay_dropped self yes, (stay_dropped other yes, tt)) in
    proved 𝓛 En hs c 𝓜 𝓡 (Goes-dropped 𝓛 5 self yes (λ κs x f. refl), (Goes-dropped 𝓛 5 other yes (λ κs x f. refl), tt))
    (#self inst) fn (code.unfolded 𝓤 H 𝓜 𝓡 wired (X, (P, (U, (F, tt)))) d)
    (λ κs. (shr_vals, (shr_vals, tt))) (λ κs. (shr_Tells (named 0) κs.0 Row, (shr_Tells (named 0) κs.0 St, tt))) (λ κs qs bounds a gh are.
    let b : ℕ = a.0.ref_ptr.0 in let o : ℕ = a.0.ref_ptr.1 in let b' : ℕ = a.1.0.ref_ptr.0 in let o' : ℕ = a.1.0.ref_ptr.1 in let κ : Lft = κs.0 in
    let t : Row.Denot = a.0.now in let p : Ptr = t.words in let z : BaseId = t.id in let s : St.Denot = a.1.0.now in let q : Ptr = s.words in let y : BaseId = s.id in
    let cv = seat_coded R₂.coded in let rule = g.holds t.fixed in let holds = HoldsSince g.rests g.leans t.start rule g.keeps in let keeps = keeps_here g.keeps in
    let t' : Row.Denot = record { words = q; marker = t.marker; id = y; fixed = t.fixed; start = t.start } in
    let others : Fml = fsep (flft κs.1.0 qs.1.0) (fsep (flft κs.1.1.0 qs.1.1.0) (fsep (flft κs.1.1.1.0 qs.1.1.1.0) (fsep (flft κs.1.1.1.1.0 qs.1.1.1.1.0) ftrue))) in
    let Asked : Type 0 = (core_of y ≡ core_of z) × InBlock q in let Inv : Core → Fml = λ k. invariant IsEven (fbor (k.atom ∷ []) (everything K₀ kept_words cv holds k)) in
    let Lasts : Core → Fml = λ k. fshr_bor κ (λ u. flft (k.atom ∷ []) u) in
    let w : (walk_of 𝓛 En hs c).Ghost = ((κs, qs, bounds, a, (vptr b o ∷ [], (vptr b' o' ∷ [], tt))), gh) in
    let Post : Val → SProp 𝓤 = (walk_of 𝓛 En hs c).post w in
    qed 𝓛 (((‵ (flft κs.0 qs.0) ⊛ ‵ others) ⊛ ‵ (owns (types_at En.signature.params κs) a w.0.4)) ∷ raw (fact 𝓤 _) ∷
    raw (fact 𝓤 _) ∷ raw (fact 𝓤 _) ∷ raw (fact 𝓤 _) ∷ raw (fact 𝓤 Asked) ∷ []) ∵
    keep ! (5 ∷ 0 ∷ []) $ heard ! Asked (λ asked. split ! $ split ! $ move ! (2 ∷ []) $ fsplit3 ! $ fsplit ! $ move ! (2 ∷ []) $ fsplit ! $
    -- [self; the strip; the token; the others]
    keep ! (3 ∷ 1 ∷ 5 ∷ 6 ∷ []) $
    enter ! 𝓣.C 𝓣.Λ fn (vptr b o ∷ vptr b' o' ∷ []) Post $ alloc_all ! (λ l. pass_all ! refl ((tt, tt), ((tt, tt), tt)) $ let Ev = env fn.locals l in
    use1 𝓛 (‵ (hidden_shr D κ (p, (tt, tt)) b o) ⊛ ‵ (fhide (words_share K₀ kept_words cv holds p z κ)))
    (lent_out 𝓛 (words.struct R₀ R₁ R₂ R₃ g)
    (words.the_codes X.Denot P.Denot U.Denot F.Denot R₀.coded R₁.coded R₂.coded R₃.coded (marker.the_row (Tuple (R₀ ∷ R₁ ∷
    []))).coded) (words.the_heap R₀ R₁ R₂ R₃ g) (words.the_lent R₀ R₁ R₂ R₃ g) κ t b o) $
    split ! $ drop ! $ unhide ! $ fsplit ! $ move ! (1 ∷ []) $ fsplit ! $ drop ! $ fsplit ! $ drop ! $
    -- [the invariant; its lifetime lasts; the strip; the token; the others]
    rewrite ! 0 (λ (k : Core). ‵ (Inv k)) (sym asked.0) refl $ rewrite ! 1 (λ (k : Core). ‵ (Lasts k)) (sym asked.0) refl $ move ! (2 ∷ []) $
    use1 𝓛 (‵ (hidden_shr Ds κ (q, (tt, tt)) b' o') ⊛ ‵ (fhide (strip_known K₀ q y)))
    (lent_out 𝓛 (strip.struct R₀) (strip.the_codes X.Denot R₀.coded (marker.the_row R₀).coded) (strip.the_heap R₀) (strip.the_lent R₀) κ s b' o') $
    split ! $ move ! (1 ∷ []) $ unhide ! $ rewrite ! 0 (λ (f : Fml). ‵ f) (told_there K₀ q y asked.1) refl $ fsplit ! $
    -- [it is placed; it is listed; the address; the invariant; its lifetime lasts; the token; the others]
    move ! (1 ∷ 3 ∷ []) $ fjoin ! $ move ! (1 ∷ 0 ∷ []) $ fjoin ! $ move ! (2 ∷ 0 ∷ []) $ fjoin ! $
    -- [what words share; the address; the token; the others]
    use1 𝓛 (‵ (fhide (words_share K₀ kept_words cv holds q y κ))) (id⊢ 𝓤 _) $ move ! (1 ∷ 0 ∷ []) $
    use2 𝓛 (‵ (hidden_shr Row κ t' b' o')) (id⊢ 𝓤 _) $
    first ! $ blocks ! $
    sets ! (addr ! (through ! refl (stop !))) refl (tt, tt) $
    sets ! (of_opd ! (get ! refl)) refl (tt, tt) $
    sets_last ! (addr ! (through ! refl (stop !))) refl (tt, tt) $ exec ! 𝓣.C 𝓣.Λ Ev (tail fn.body) (at_ret Ev Post) $
    sets ! (of_opd ! (get ! refl)) refl (tt, tt) $
    move ! (1 ∷ 2 ∷ []) $ join ! $ move ! (1 ∷ []) $ feq_i ! (List Val) (vptr b' o' ∷ []) (vptr b' o' ∷ []) refl $ fjoin ! $
    let Told : Type 0 = (q ≡ q) × (y ≡ y) × (t.fixed ≡ t.fixed) × (y.views_name ≡ z.views_name) × (y.hands_name ≡ z.hands_name) in
    use0 𝓛 (raw (fact 𝓤 Told)) (fact_i 𝓤 Told (emp 𝓤) (refl, refl, refl, ap (λ (k : Core). k.views_name) asked.0, ap (λ (k : Core). k.hands_name) asked.0)) $
    nothing ! $ nothing ! $ fjoin ! $ nothing ! $ fjoin ! $
    returns ! (look_at ! 0 refl) $ free_all ! refl $ keep ! (3 ∷ 0 ∷ 2 ∷ 1 ∷ []) $
    by ! (leaves 𝓛 En hs c w (vptr b' o') (record { ref_ptr = (b', o'); now = t' }) (tt, (tt, tt)) (tt, (tt, tt))))))
