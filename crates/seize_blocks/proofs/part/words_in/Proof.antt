-- `words_in` tells the address of a strip.
use Rattle.std.proofs.Common.{◌≡◌, ℕ, List, [], ◌∷◌, sym, refl}
use mir.Syntax.{a_type, named}
use mir.MapTy.{inst_fn}
use mir.Val.{Val, vptr}
use base.Logic.{SProp, emp}
use base.Fml.{Lft, Fml, ftrue, fsep, flft, fhide}
use types.Kit.{‵, raw, ◌⊛◌, ◌$◌, ◌∵◌, !, qed, by, move, keep, drop, split, join, fsplit, fjoin, use0, use1, rewrite}
use types.Run.{stop, fld, load, of_opd, no_more, and_then, returns, enter}
use types.ByLocal.{alloc_all, pass_all, free_all, look_at, get, through, sets}
use types.Part.{agg, sub, whole, look_in}
use contract.Running.{tables}
use contract.Monad.{fact, fact_i}
use denote.Exit.{yes}
use denote.RattleType.{RattleType, owns}
use denote.Signature.{types_at, plain}
use denote.RawPtr.{Ptr}
use denote.Steps.{nothing, peeks, looks, shuts}
use denote.Laws.{Is, shows}
use denote.Memory.{cell_at, hidden_shr}
use denote.Param.{param, layouts}
use denote.Builtin.{RefOf}
use denote.Ref.{shr_vals, shr_Tells}
use denote.Struct.Lending.{lent_out}
use denote.Triple.Walked.{Stays, stay_dropped, walk_of, Goes-dropped}
use Rattle.core.proofs.atomic.Steps.{Ptr-Good}
use Rattle.std.specs.contracts.marker.PhantomData as marker
use Rattle.std.proofs.raw_atomic.Walks.{proved, leaves}
use Rattle.seize_seats.specs.Seats.Owned.{BaseId, strip_known}
use Rattle.seize_seats.specs.contracts.kept.Kept as kept_of
use Rattle.seize_atoms.specs.contracts.strip.Strip as strip
use Rattle.seize_seats.specs.contracts.place.Address as address
use Rattle.seize_atoms.proofs.Fields.{one_of, one_good, StripData, strip_data_told, strip_opened, address_made}
use Rattle.seize_blocks.specs.contracts.part.words_in.{ended, clauses}
use Rattle.seize_blocks.specs.contracts.part.words_in.Key.{name as #self}
use Rattle.seize_blocks.proofs.part.words_in.Statement.{statement}
use Rattle.seize_blocks.proofs.part.words_in.Code as code
use Rattle.seize_words.proofs.OneMemory.Stored.{hand_of}

pub words_in_spec : {M : Type 1} → statement M
words_in_spec 𝓤 𝓛 𝓜 𝓡 wired T L =
    let H = 𝓛.H in let 𝓣 = tables 𝓤 H 𝓜 𝓡 𝓡.env in let R : RattleType = param 0 T in let En = ended T in let c = clauses T 𝓛 𝓜.mem 𝓡.returns in
    let inst = layouts (a_type ∷ []) (T, tt) in let fn = inst_fn inst code.function in
    let St : RattleType = strip.the_row R in let Ad : RattleType = address.the_row in let D : RattleType = StripData R in
    let self = RefOf (0 ∷ []) tt (plain (λ _. St)) (λ _. tt) in
    let hs : Stays En.signature.params En.kept = (stay_dropped self yes, tt) in
    proved 𝓛 En hs c 𝓜 𝓡 (Goes-dropped 𝓛 2 self yes (λ κs x f. refl), tt) (#self inst) fn (code.unfolded 𝓤 H 𝓜 𝓡 wired (T, tt))
    (λ κs. (shr_vals, tt)) (λ κs. (shr_Tells (named 0) κs.0 St, tt)) (λ κs qs bounds a gh are.
    let b : ℕ = a.0.ref_ptr.0 in let o : ℕ = a.0.ref_ptr.1 in let κ : Lft = κs.0 in let t : St.Denot = a.0.now in let p : Ptr = t.words in let z : BaseId = t.id in
    let others : Fml = fsep (flft κs.1.0 qs.1.0) ftrue in
    let y : (walk_of 𝓛 En hs c).Ghost = ((κs, qs, bounds, a, (vptr b o ∷ [], tt)), gh) in let Post : Val → SProp 𝓤 = (walk_of 𝓛 En hs c).post y in
    qed 𝓛 (((‵ (flft κs.0 qs.0) ⊛ ‵ others) ⊛ ‵ (owns (types_at En.signature.params κs) a y.0.4)) ∷ raw (fact 𝓤 _) ∷ raw (emp 𝓤) ∷ []) ∵
    keep ! (0 ∷ []) $ split ! $ split ! $ move ! (2 ∷ []) $ fsplit ! $ fsplit ! $ keep ! (1 ∷ 3 ∷ 4 ∷ []) $
    enter ! 𝓣.C 𝓣.Λ fn (vptr b o ∷ []) Post $ alloc_all ! (λ l. pass_all ! refl ((tt, tt), tt) $
    use1 𝓛 (‵ (hidden_shr D κ (p, (tt, tt)) b o) ⊛ ‵ (fhide (strip_known (kept_of.the_row R) p z)))
    (lent_out 𝓛 (strip.struct R) (strip.the_codes T.Denot R.coded (marker.the_row R).coded) (strip.the_heap R) (strip.the_lent R) κ t b o) $
    split ! $ move ! (1 ∷ []) $ drop ! $
    -- [the address; the token; the others]
    looks ! tt D (strip_opened R 𝓛) (p, (tt, tt)) b o (λ q vs. move ! (1 ∷ []) $ peeks ! D (Is D) (shows 𝓛 D) (p, (tt, tt)) vs (λ is_so.
    let ev : vs ≡ hand_of p ∷ [] = strip_data_told R p vs is_so in
    rewrite ! 1 (λ (ws : List Val). ‵ (cell_at q D.mir ws b o)) ev refl $
    sets ! (of_opd ! (load ! (through ! refl (fld ! refl (stop !))) (look_in ! 1 (sub ! 0 refl (whole !))))) refl (Ptr-Good p) $
    rewrite ! 1 (λ (ws : List Val). ‵ (cell_at q D.mir ws b o)) (sym ev) refl $ move ! (1 ∷ 0 ∷ 2 ∷ []) $ shuts ! tt D q (p, (tt, tt)) vs b o $
    -- [the token; the address; the others]
    sets ! (agg ! (and_then ! (get ! refl) (no_more !))) refl (one_good p) $ let r : Ad.Denot = record { at = p } in let Told : Type 0 = p ≡ p in
    use0 𝓛 (‵ (Ad.own_val r (one_of p ∷ []))) (address_made 𝓛 p) $ nothing ! $ nothing ! $ fjoin ! $ move ! (2 ∷ 4 ∷ []) $ join ! $
    use0 𝓛 (raw (fact 𝓤 Told)) (fact_i 𝓤 Told (emp 𝓤) refl) $
    returns ! (look_at ! 0 refl) $ free_all ! refl $ keep ! (1 ∷ 2 ∷ 3 ∷ 0 ∷ []) $ by ! (leaves 𝓛 En hs c y (one_of p) r (tt, tt) (tt, tt))))))
