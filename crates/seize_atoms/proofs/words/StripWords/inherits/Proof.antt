-- `inherits` ends the lifetime of the memory, in which it is known what one seat knows, and begins another one with the same seats, under another rule, and takes no
-- step of the machine.
use Rattle.seize_atoms.specs.Visiting.{Seen, HoldsSince, seat_coded}
use Rattle.seize_seats.specs.Seats.Errands.{RenewsInto, Away, coded_of}
use Rattle.seize_seats.specs.Seats.Start.{WasKnown}
use Rattle.seize_seats.specs.Seats.State.{State}
use Rattle.seize_seats.specs.Seats.Visits.{plain_memory, fresh}
use Rattle.seize_words.specs.OneMemory.Mem.{Mem}
use Rattle.seize_atoms.proofs.Allowed.{inherits_alone, was_known}
use Rattle.std.specs.Prelude.{Some, None, map, slice_get, slice_set}
use Rattle.std.proofs.Common.{◌≡◌, ℕ, List, [], ◌∷◌, refl}
use mir.Syntax.{dcons, dnil, a_type, named}
use mir.MapTy.{inst_fn}
use mir.Val.{Val, vptr, vstruct, vcons, vnil}
use base.Logic.{SProp, emp}
use base.Fml.{Fml, Incl-trans, ftrue, fsep, flft}
use types.Kit.{‵, raw, ◌⊛◌, given, later, ◌$◌, ◌∵◌, !, qed, by, move, keep, split, split3, join, fsplit, fsplit3, fjoin, fjoin3, fpack, learn, use0, use1, use3, await, rewrite, feq_i, some as items, pick}
use types.Run.{stop, fld, of_opd, no_more, and_then, returns, enter}
use types.ByLocal.{alloc_all, pass_all, free_all, look_at, get, get_in, sets}
use types.Part.{agg, sub, whole}
use contract.BorrowLft.{◌⊑◌}
use contract.Running.{tables}
use contract.Monad.{fact, fact_i}
use denote.Exit.{yes, no}
use denote.RattleType.{RattleType, Valss, owns}
use denote.Struct.Struct.{within}
use denote.Struct.Declared as declared
use denote.Struct.Tuple.{tuple_type}
use denote.Signature.{types_at, plain}
use denote.RawPtr.{Ptr}
use denote.Steps.{nothing, heard, opens, closes}
use denote.Param.{param, bounded}
use denote.Param.Laws.{Laws, param_laws}
use denote.Builtin.{RefOf}
use denote.Ref.{shr_vals, shr_Tells, mut_vals, mut_Tells}
use denote.Triple.Walked.{Stays, stay_dropped, stay_ref, walk_of, Goes-dropped, Goes-ref}
use Rattle.core.proofs.atomic.Steps.{Ptr-Good}
use Rattle.std.proofs.raw_atomic.Walks.{proved, leaves}
use base.Share.{three_quarters}
use Rattle.seize_seats.specs.Seats.Seen.{seen}
use Rattle.seize_seats.specs.Seats.Stretches.{seat_owns}
use Rattle.seize_seats.proofs.Seats.Views.Stretches.{ends, begins}
use Rattle.seize_seats.specs.Seats.Owned.{BaseId, IsLike, words_own}
use Rattle.seize_seats.proofs.Seats.Renewal.{goes_over, sits_again, shows_itself, WasFound}
use Rattle.seize_atoms.specs.contracts.words.StripWords as words
use Rattle.seize_atoms.specs.contracts.seat.Seat as seat
use Rattle.seize_atoms.proofs.Fields.{Data, Token, token, token_made, told, hand_made, hand_good, had_good}
use Rattle.seize_atoms.specs.contracts.words.StripWords.inherits.{ended, clauses}
use Rattle.seize_atoms.specs.contracts.words.StripWords.inherits.Key.{name as #self}
use Rattle.seize_atoms.proofs.words.StripWords.inherits.Statement.{statement}
use Rattle.seize_atoms.proofs.words.StripWords.inherits.Code as code
use Rattle.core.proofs.once.Steps.{option_lives}
use Rattle.core.proofs.option.Option.TheLaws.{the_row_laws as option_laws}
use Rattle.core.specs.contracts.option.Option.{the_row as OptionOf}
use Rattle.seize_atoms.proofs.Lives.{kept_lives}
use Rattle.seize_seats.specs.contracts.kept.Kept as kept_of
use Rattle.seize_seats.proofs.kept.Kept.TheLaws.{the_row_laws as kept_laws}
use Rattle.seize_seats.specs.Plots.Pieces.{kept_words, value_of}
use Rattle.seize_words.proofs.OneMemory.Stored.{hand_of}

pub inherits_spec : {M : Type 1} → statement M
inherits_spec 𝓤 𝓛 𝓜 𝓡 wired X P U F N Q V G LX LP LU LF LN LQ LV LG g d g' d' e d'' _ _ _ =
    let H = 𝓛.H in let 𝓣 = tables 𝓤 H 𝓜 𝓡 𝓡.env in let R₀ : RattleType = param 0 X in let K₀ : RattleType = kept_of.the_row R₀ in let R₁ : RattleType = param 1 P in
    let R₂ : RattleType = param 2 U in let R₃ : RattleType = param 3 F in let R₄ : RattleType = param 4 N in let R₅ : RattleType = param 6 V in let R₆ : RattleType = param 7 G in
    let En = ended X P U F N Q V G g d g' d' e d'' in let c = clauses X P U F N Q V G g d g' d' e d'' 𝓛 𝓜.mem 𝓡.returns in
    let inst = bounded (a_type ∷ a_type ∷ a_type ∷ a_type ∷ a_type ∷ a_type ∷ a_type ∷ a_type ∷ []) (X, (P, (U, (F, (N, (Q, (V, (G, tt)))))))) (dcons d (dcons d' (dcons d'' dnil))) in
    let fn = inst_fn inst code.function in let O : RattleType = OptionOf K₀ in let LO : Laws O = option_laws K₀ (kept_laws R₀ (param_laws 0 X LX)) in
    let Row : RattleType = words.the_row R₀ R₁ R₂ R₃ g in let Sr : RattleType = seat.the_row R₀ R₁ R₂ R₃ g in
    let Other : RattleType = words.the_row R₀ R₄ R₅ R₆ g' in let Next : RattleType = seat.the_row R₀ R₄ R₅ R₆ g' in
    let about = RefOf (1 ∷ []) tt (plain (λ _. R₆)) (λ _. tt) in let sitter = plain (λ _. Sr) in
    let hs : Stays En.signature.params En.kept = (stay_dropped (plain (λ _. Row)) no, (stay_ref (0 ∷ []) tt sitter, (stay_dropped about yes, tt))) in
    proved 𝓛 En hs c 𝓜 𝓡 (Goes-dropped 𝓛 10 (plain (λ _. Row)) no (λ κs x f. refl), (Goes-ref 𝓛 10 0 tt sitter, (Goes-dropped 𝓛 10 about yes (λ κs x f. refl), tt)))
    (#self inst) fn (code.unfolded 𝓤 H 𝓜 𝓡 wired (X, (P, (U, (F, (N, (Q, (V, (G, tt)))))))) d d' d'')
    (λ κs. ((λ x. hand_of x.words ∷ []), (mut_vals, (shr_vals, tt))))
    (λ κs. ((λ x vs so. told R₀ R₁ R₂ R₃ g x.words vs so.0), (mut_Tells (named 0) κs.0 Sr, (shr_Tells (named 1) κs.1.0 R₆, tt)))) (λ κs qs bounds a gh are.
    let t : Row.Denot = a.0 in let p : Ptr = t.words in let z : BaseId = t.id in let b' : ℕ = a.1.0.ref_ptr.0 in let o' : ℕ = a.1.0.ref_ptr.1 in let h : Sr.Denot = a.1.0.now in
    let b : ℕ = a.1.1.0.ref_ptr.0 in let o : ℕ = a.1.1.0.ref_ptr.1 in let f : G.Denot = a.1.1.0.now in let id : ℕ = h.id in let v : Seen U.Denot = ((h.view, h.visit), h.away) in
    let cv = seat_coded R₂.coded in let cv' = seat_coded R₅.coded in let rule = g.holds t.fixed in let holds = HoldsSince g.rests g.leans t.start rule g.keeps in
    let after = λ (s : State K₀.Denot (Seen U.Denot) g.World). HoldsSince g'.rests g'.leans (plain_memory value_of s.memory) (g'.holds f) g'.keeps in let blank : Seen U.Denot → Seen V.Denot = λ _. ((g'.newcomer f, fresh), None) in
    let left : U.Denot → V.Denot = e.left f in let next : V.Denot = e.heir f h.view in let heir : Seen V.Denot = ((next, fresh), None) in let h₀ : Away = None in
    let goes : Seen U.Denot → Seen V.Denot = λ u. ((left u.0.0, fresh), None) in
    let Known : Fml = seen cv.code z.views_name three_quarters id v in let Knows : List (Seen U.Denot) → Type 0 = λ vs. slice_get vs id ≡ Some v in
    let St : Type 0 = State K₀.Denot (Seen U.Denot) g.World in
    let rest : Fml = fsep (flft κs.1.1.1.0 qs.1.1.1.0) (fsep (flft κs.1.1.1.1.0 qs.1.1.1.1.0) (fsep (flft κs.1.1.1.1.1.0 qs.1.1.1.1.1.0) (fsep (flft κs.1.1.1.1.1.1.0 qs.1.1.1.1.1.1.0) (fsep (flft κs.1.1.1.1.1.1.1.0 qs.1.1.1.1.1.1.1.0) (fsep (flft κs.1.1.1.1.1.1.1.1.0 qs.1.1.1.1.1.1.1.1.0) (fsep (flft κs.1.1.1.1.1.1.1.1.1.0 qs.1.1.1.1.1.1.1.1.1.0) ftrue)))))) in
    let others : Fml = fsep (flft κs.1.1.0 qs.1.1.0) rest in let Asked : Type 0 = (h.base ≡ z.views_name) × g'.rests next × ((w : U.Denot) → g.rests w → g'.rests (left w)) × RenewsInto g.rests rule (g'.holds f) id h.view left next in
    let y : (walk_of 𝓛 En hs c).Ghost = ((κs, qs, bounds, a, (hand_of p ∷ [], (vptr b' o' ∷ [], (vptr b o ∷ [], tt)))), gh) in
    let Post : Val → SProp 𝓤 = (walk_of 𝓛 En hs c).post y in
    qed 𝓛 (((‵ (flft κs.0 qs.0) ⊛ ‵ (flft κs.1.0 qs.1.0) ⊛ ‵ others) ⊛ ‵ (owns (types_at En.signature.params κs) a y.0.4)) ∷ raw (fact 𝓤 (κs.1.1.0 ⊑ X.lives)) ∷ raw (fact 𝓤 _) ∷
    raw (fact 𝓤 _) ∷ raw (fact 𝓤 _) ∷ raw (fact 𝓤 _) ∷ raw (fact 𝓤 _) ∷ raw (fact 𝓤 _) ∷ raw (fact 𝓤 _) ∷ raw (fact 𝓤 Asked) ∷ []) ∵
    keep ! (9 ∷ 1 ∷ 0 ∷ []) $ heard ! Asked (λ asked. heard ! (κs.1.1.0 ⊑ X.lives) (λ inc. split ! $ split3 ! $ move ! (3 ∷ []) $ fsplit3 ! $ fsplit ! $ move ! (2 ∷ []) $ fsplit3 ! $
    -- [the seat, by two; its token; the memory; the token of what is chosen; the others]
    keep ! (1 ∷ 2 ∷ 6 ∷ 4 ∷ 7 ∷ 8 ∷ []) $
    enter ! 𝓣.C 𝓣.Λ fn (hand_of p ∷ vptr b' o' ∷ vptr b o ∷ []) Post $ alloc_all ! (λ l. pass_all ! refl (hand_good p, ((tt, tt), ((tt, tt), tt))) $
    opens ! tt Sr b' o' (λ ts. move ! (1 ∷ []) $ fsplit ! $
    -- [the seat's fields; the seat; four of it; the memory; the token; the others]
    rewrite ! 1 (λ (u : ℕ). ‵ (seat_owns cv.code u id v h.stretch h.mark)) asked.0 refl $ move ! (1 ∷ []) $
    use1 𝓛 (later (‵ Known)) (ends 𝓛 (coded_of cv) z.views_name id v h.stretch h.mark) $ await ! tt $ move ! (8 ∷ []) $ fsplit ! $ move ! (8 ∷ 2 ∷ 0 ∷ []) $
    use3 𝓛 (later (items (λ (i : BaseId × St). given (IsLike i.0 z × WasFound cv.away holds Knows i.1)
    (‵ (words_own K₀ kept_words cv' (after i.1) p i.0) ⊛ ‵ (seen cv'.code i.0.views_name three_quarters id heir))) ⊛ ‵ (flft κs.1.1.0 qs.1.1.0) ⊛ ‵ Known))
    (goes_over 𝓛 K₀ kept_words cv cv' holds after p z Known Knows (shows_itself 𝓛 K₀ kept_words cv cv' holds after p z id v) (λ vs. slice_set (map goes vs) id heir)
    (λ γ. seen cv'.code γ three_quarters id heir) (sits_again 𝓛 K₀ kept_words cv cv' holds after p z id goes heir (λ _. refl) refl v) blank
    (λ st so back at. inherits_alone g.rests g.leans g.upright rule g.keeps t.start g'.rests g'.leans g'.upright (g'.holds f) g'.keeps left next asked.2 asked.1 id h.view h.visit h.away asked.3 st so back at) κs.1.1.0 qs.1.1.0 (LO.shares 𝓛)
    (Incl-trans inc (Incl-trans (kept_lives R₀) (option_lives K₀)))) $ await ! tt $ split3 ! $ pick ! (λ i. learn ! (λ like. split ! $ let u : BaseId = i.0 in
    let m : Mem X.Denot = plain_memory value_of i.1.memory in
    -- [the memory; the heir's view; the type's token; the view; the rest; the seat's fields; four of it; the token]
    move ! (1 ∷ []) $
    use1 𝓛 (later (items (λ (st : ℕ × ℕ). ‵ (seat_owns cv'.code u.views_name id heir st.0 st.1)))) (begins 𝓛 (coded_of cv') u.views_name id heir) $ await ! tt $ pick ! (λ sn.
    -- [the heir; the memory; the type's token; the view; the rest; the seat's fields; four of it; the token]
    move ! (2 ∷ 4 ∷ []) $ fjoin ! $ move ! (3 ∷ []) $
    use1 𝓛 (later (items (λ (st : ℕ × ℕ). ‵ (seat_owns cv.code z.views_name id v st.0 st.1)))) (begins 𝓛 (coded_of cv) z.views_name id v) $ await ! tt $ pick ! (λ st.
    let h' : Sr.Denot = record { marker = h.marker; base = z.views_name; id = id; view = h.view; visit = h.visit; away = h.away; stretch = st.0; mark = st.1 } in
    let t' : Other.Denot = record { words = p; marker = record {}; id = u; fixed = f; start = m } in
    let r : Next.Denot = record { marker = record {}; base = u.views_name; id = id; view = next; visit = fresh; away = None; stretch = sn.0; mark = sn.1 } in
    let Told : Type 0 = (p ≡ p) × (f ≡ f) × IsLike u z × (u.views_name ≡ u.views_name) × (id ≡ id) × (next ≡ next) × (h₀ ≡ None) × WasKnown g.rests rule id h.view m in
    let pair : Val = vstruct (vcons (hand_of p) (vcons token vnil)) in
    -- [the seat; the others; the heir; the memory; the seat's fields; four of it; the token]
    move ! (4 ∷ 0 ∷ []) $ fjoin ! $ move ! (4 ∷ 0 ∷ 5 ∷ 6 ∷ 7 ∷ []) $ closes ! tt Sr h' ts b' o' $
    feq_i ! (List Val) (vptr b' o' ∷ []) (vptr b' o' ∷ []) refl $ fjoin3 ! $
    -- [the seat; its token; the others; the heir; the memory; the token]
    sets ! (of_opd ! (get_in ! (fld ! refl (stop !)) (sub ! 0 refl (whole !)))) refl (Ptr-Good p) $ sets ! (agg ! (no_more !)) refl (tt, tt) $
    sets ! (agg ! (and_then ! (get ! refl) (and_then ! (get ! refl) (no_more !)))) refl (hand_good p) $
    sets ! (agg ! (no_more !)) refl (tt, tt) $ sets ! (agg ! (and_then ! (get ! refl) (no_more !))) refl (tt, (tt, tt)) $
    sets ! (agg ! (and_then ! (get ! refl) (and_then ! (get ! refl) (no_more !)))) refl (had_good p) $
    move ! (3 ∷ []) $ use0 𝓛 (‵ ((Token R₀ R₄ R₅ R₆ g').own_val (tt, tt) (token ∷ []))) (token_made R₀ R₄ R₅ R₆ g' 𝓛) $ fjoin ! $ move ! (4 ∷ []) $
    use0 𝓛 (‵ ((Data R₀ R₄ R₅ R₆ g').own_val (p, (tt, tt)) (hand_of p ∷ []))) (hand_made R₀ R₄ R₅ R₆ g' 𝓛 p) $ fjoin ! $
    -- [the memory; the heir; the seat; its token; the others; the token]
    move ! (1 ∷ []) $ nothing ! $ move ! (1 ∷ 0 ∷ []) $ fjoin ! $ move ! (1 ∷ 0 ∷ []) $ fjoin ! $ feq_i ! (List Val) (pair ∷ []) (pair ∷ []) refl $ fjoin ! $
    fpack ! (Valss (Other ∷ Next ∷ [])) (within (declared.shape (tuple_type (Other ∷ Next ∷ []))) (t', (r, tt)) (pair ∷ [])) (hand_of p ∷ [], (token ∷ [], tt)) $
    -- [both; the seat; its token; the others; the token]
    move ! (1 ∷ []) $ nothing ! $ nothing ! $ fjoin ! $ move ! (1 ∷ 0 ∷ []) $ fjoin ! $ nothing ! $ fjoin ! $
    -- [what is left; both; the seat's token; the others; the token]
    move ! (4 ∷ 3 ∷ []) $ join ! $ move ! (3 ∷ 0 ∷ []) $ join ! $ use0 𝓛 (raw (fact 𝓤 Told)) (fact_i 𝓤 Told (emp 𝓤) (refl, refl, like.0, refl, refl, refl, refl, was_known g.rests g.leans g.upright rule g.keeps t.start id h.view h.visit h.away i.1 like.1.0 like.1.1 like.1.2)) $
    returns ! (look_at ! 0 refl) $ free_all ! refl $ keep ! (1 ∷ 2 ∷ 3 ∷ 0 ∷ []) $ by ! (leaves 𝓛 En hs c y pair (t', r) (tt, (h', (tt, tt))) (tt, (tt, (tt, tt)))))))))))))
