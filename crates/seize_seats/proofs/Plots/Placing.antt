-- Slots give up their places, and places are slots again: one call each. Assumes `Logic`.
use Rattle.std.proofs.Common.{◌≡◌, ℕ, ◌^◌, ◌<◌, Bool, T, List, [], ◌∷◌, ◌++◌, length, refl, sym, ap, ◌∙◌, subst}
use seplogic.Ra.Ura.{Ura}
use mir.Val.{Val, WT, has_ty, vint, vptr, vstruct, of_list}
use mir.Syntax.{w64, Callee}
use prog.Model.{Model}
use prog.Wired.{Wired}
use base.Logic.{SProp, ent, sep, emp, via, fst∗, id⊢}
use base.Fml.{Lft, Share, Fml, ftrue, fsep, flft}
use types.Logic.{Logic}
use types.Kit.{Item, mean, ‵, raw, ◌⊛◌, some as items, given, later, ◌$◌, ◌∵◌, !, qed, move, keep, drop, use0, use1, split, join, pick, rewrite, fsplit, fsplit3, fjoin, fpick, feq_l, feq_i, flt_i, check, show, await, updating, now, done}
use contract.BorrowLft.{◌⊑◌}
use contract.Monad.{fact, fact_i}
use contract.Running.{Running, MachineTables, tables}
use denote.RattleType.{RattleType}
use denote.Builtin.{usize, RawPtr}
use denote.Param.{layout}
use denote.RawPtr.{Ptr, block_ptr}
use denote.Steps.{only, heard, nothing}
use denote.Struct.Tuple.{Tuple}
use denote.Triple.Spec.{triple_of}
use denote.Triple.Statement.{Contract}
use Rattle.core.specs.Mem.Slots.Ownership.{owned}
use Rattle.core.specs.Mem.Slots.{slots_items, slots_filled, slots_ptr, slots_len, slots_counts}
use Rattle.core.specs.contracts.slots.Slots.from_raw_parts as joining
use Rattle.core.specs.contracts.slots.Slots.from_raw_parts.Key as joining_key
use Rattle.core.proofs.slots.Slots.from_raw_parts.Symbol as joining_symbol
use Rattle.core.proofs.slots.Slots.from_raw_parts.Met as joining_met
use Rattle.core.specs.contracts.slots.Slots.into_raw_parts as parting
use Rattle.core.specs.contracts.slots.Slots.into_raw_parts.Key as parting_key
use Rattle.core.proofs.slots.Slots.into_raw_parts.Symbol as parting_symbol
use Rattle.core.proofs.slots.Slots.into_raw_parts.Met as parting_met
use Rattle.core.proofs.mem.Param.{El, R, args, el_x}
use Rattle.core.proofs.slots.Opens.{Sr, words_val, row_val, row_had, row_made}
use Rattle.std.proofs.raw_atomic.Calls.{fm}

-- a place and a number are a value of a type of two words
pub is_pair : (R : RattleType) (v : Val) (b o n : ℕ) → T (has_ty (layout R) (row_val b o n)) → n < 2 ^ 64 → v ≡ row_val b o n → T (has_ty (layout R) v) × WT v
is_pair R v b o n typed fits same = subst (λ (u : Val). T (has_ty (layout R) u) × WT u) (sym same) (typed, (tt, (record { fits = fits }, tt)))

module _ (E : El) where
  -- the places of values from there on
  abbrev pub Kept : ℕ → ℕ → List (el_x E) → List Bool → Fml
  Kept b o xs fs = owned (R E) (block_ptr b o) (length xs) xs fs

  -- slots as one value of two words, with the token of a lifetime
  abbrev pub Whole_of : {M : Type 1} {𝓤 : Ura M} → (Sr E).Denot → Val → Lft → Share → Item 𝓤
  Whole_of r v κ q = ‵ ((Sr E).own_val r (v ∷ [])) ⊛ ‵ (flft κ q)

  -- what the first call leaves, and what the second one does
  abbrev pub parted : {M : Type 1} {𝓤 : Ura M} → ℕ → ℕ → List (el_x E) → List Bool → Lft → Share → Val → Item 𝓤
  parted b o xs fs κ q v = later (given (v ≡ row_val b o (length xs)) (‵ (Kept b o xs fs) ⊛ ‵ (flft κ q)))

  abbrev pub Is_of : ℕ → ℕ → List (el_x E) → List Bool → (Sr E).Denot → Type 0
  Is_of b o xs fs r = (slots_ptr r ≡ block_ptr b o) × (slots_len r ≡ length xs) × (slots_items r ≡ xs) × (slots_filled r ≡ fs)

  abbrev pub joined : {M : Type 1} {𝓤 : Ura M} → ℕ → ℕ → List (el_x E) → List Bool → Lft → Share → Val → Item 𝓤
  joined b o xs fs κ q v = let u : Val = row_val b o (length xs) in
      later (items (λ (r : (Sr E).Denot). given ((v ≡ u) × Is_of b o xs fs r) (Whole_of r u κ q)))

module _ (E : El) {M : Type 1} {𝓤 : Ura M} (𝓛 : Logic 𝓤) (𝓜 : Model 𝓤 𝓛.H) (𝓡 : Running 𝓤 𝓛.H 𝓜) where
  open 𝓛 use {H, A}

  abbrev 𝓣 : MachineTables 𝓤 H 𝓜
  𝓣 = tables 𝓤 H 𝓜 𝓡 𝓡.env

  -- more is known of a call's end
  weaker : (k : Callee) (vs : List Val) (Q Z : Val → SProp 𝓤) → ((v : Val) → ent 𝓤 (Q v) (Z v)) → ent 𝓤 (𝓣.C k vs Q) (𝓣.C k vs Z)
  weaker k vs Q Z turn = via 𝓤 (sep 𝓤 (𝓣.C k vs Q) (emp 𝓤)) (qed 𝓛 (raw (𝓣.C k vs Q) ∷ []) ∵ nothing ! $ move ! (1 ∷ 0 ∷ []) $ done !)
      (fm 𝓛 𝓜 𝓡 k vs Q Z (emp 𝓤) (λ v. via 𝓤 (Q v) (fst∗ 𝓤 (Q v) (emp 𝓤)) (turn v)))

  module _ (κ : Lft) (q : Share) (le : κ ⊑ E.row.lives) (b o : ℕ) where
    pub parts : Wired 𝓡.env parting_symbol.code → (r : (Sr E).Denot) → slots_ptr r ≡ block_ptr b o
        → ent 𝓤 (mean 𝓛 (Whole_of E r (row_val b o (slots_len r)) κ q))
        (𝓣.C (parting_key.name (args E)) (row_val b o (slots_len r) ∷ []) (λ v. mean 𝓛 (parted E b o (slots_items r) (slots_filled r) κ q v)))
    parts wired r at = let xs : List (el_x E) = slots_items r in let n : ℕ = slots_len r in let lx : n ≡ length xs = (slots_counts r).0 in
        let fs : List Bool = slots_filled r in
        let G : Contract 𝓤 = triple_of 𝓛 (parting.signature E.row) (parting.spec E.row 𝓛 𝓜.mem 𝓡.returns) in
        let y : G.Ghost = (((κ, tt), (q, tt), tt, (r, tt), (row_val b o n ∷ [], tt)), tt) in
        let Le : Type 0 = κ ⊑ E.row.lives in let Two : RattleType = Tuple (RawPtr ∷ usize ∷ []) in
        let Are : Two.Denot → Type 0 = λ w. (w.0 ≡ slots_ptr r) × (w.1 ≡ n) in
        let Left : Fml = owned (R E) (slots_ptr r) n xs fs in
        via 𝓤 (G.pre y) (qed 𝓛 (Whole_of E r (row_val b o n) κ q ∷ []) ∵ split ! $ nothing ! $ move ! (1 ∷ 0 ∷ []) $ fjoin ! $ move ! (1 ∷ []) $ nothing ! $
        move ! (1 ∷ 0 ∷ []) $ join ! $
        move ! (0 ∷ 1 ∷ []) $ join ! $ nothing ! $ use0 𝓛 (raw (fact 𝓤 Le)) (fact_i 𝓤 Le (emp 𝓤) le) $ join ! $ move ! (1 ∷ 0 ∷ []) $ join ! $ done !)
        (via 𝓤 _ (parting_met.met 𝓤 𝓛 𝓜 𝓡 wired E.row E.laws y) (weaker (parting_key.name (args E)) (row_val b o n ∷
        []) (G.post y) (λ v. mean 𝓛 (parted E b o xs fs κ q v)) (λ v.
        qed 𝓛 (raw (G.post y v) ∷ []) ∵ updating ! $
        use1 𝓛 (later (items (λ (w : Two.Denot). ((‵ (flft κ q) ⊛ ‵ ftrue) ⊛ ‵ (Two.own_val w (v ∷
        []))) ⊛ items (λ (_ : Unit {0} × Unit {0}). ‵ (fsep ftrue ftrue) ⊛ raw (fact 𝓤 (Are w)) ⊛ ‵ Left)))) (id⊢ 𝓤 (G.post y v)) $
        await ! tt $ pick ! (λ w. split ! $ split ! $ move ! (2 ∷ []) $ pick ! (λ _. split ! $ drop ! $ split ! $ heard ! (Are w) (λ are. move ! (1 ∷ []) $
        split ! $
        -- [the token; nothing; the two words; the places]
        move ! (3 ∷ []) $ fpick ! (λ us. fsplit ! $ feq_l ! (λ all. fsplit3 ! $ feq_l ! (λ first. fsplit ! $ feq_l ! (λ second.
        let is : v ≡ row_val b o (length xs) =
        ap only all ∙ ((λ i. vstruct (of_list (first i ++ (second i ++ [])))) ∙ (λ i. words_val ((are.0 ∙ at) i) ((are.1 ∙ lx) i))) in
        move ! (4 ∷ 2 ∷ []) $ rewrite ! 0 (λ (t : Ptr × ℕ). ‵ (owned (R E) t.0 t.1 xs fs)) (λ i. (at i, lx i)) refl $
        now ! $ check ! is $ keep ! (0 ∷ 1 ∷ []) $ done !))))))))))

    pub joins : Wired 𝓡.env joining_symbol.code → (xs : List (el_x E)) (fs : List Bool) → length fs ≡ length xs → length xs < 2 ^ 64
        → ent 𝓤 (mean 𝓛 (‵ (Kept E b o xs fs) ⊛ ‵ (flft κ q)))
        (𝓣.C (joining_key.name (args E)) (vptr b o ∷ vint w64 (length xs) ∷ []) (λ v. mean 𝓛 (joined E b o xs fs κ q v)))
    joins wired xs fs even fits = let n : ℕ = length xs in
        let G : Contract 𝓤 = triple_of 𝓛 (joining.signature E.row) (joining.spec E.row 𝓛 𝓜.mem 𝓡.returns) in
        let y : G.Ghost = (((κ, tt), (q, tt), tt, (block_ptr b o, (n, tt)), (vptr b o ∷ [], (vint w64 n ∷ [], tt))), (xs, fs)) in
        let Le : Type 0 = κ ⊑ E.row.lives in let Long : Type 0 = (n ≡ length xs) × (n ≡ length fs) in
        let Are : (Sr E).Denot → Type 0 = λ r. (slots_ptr r ≡ block_ptr b o) × (slots_len r ≡ n) × (slots_items r ≡ xs) × (slots_filled r ≡ fs) in
        via 𝓤 (G.pre y) (qed 𝓛 ((‵ (Kept E b o xs fs) ⊛ ‵ (flft κ q)) ∷ []) ∵ split ! $
        use0 𝓛 (raw (fact 𝓤 Long)) (fact_i 𝓤 Long (emp 𝓤) (refl, sym even)) $ join ! $
        use0 𝓛 (raw (fact 𝓤 Le)) (fact_i 𝓤 Le (emp 𝓤) le) $ join ! $ nothing ! $ flt_i ! n (2 ^ 64) fits $
        feq_i ! (List Val) (vint w64 n ∷ []) (vint w64 n ∷ []) refl $ fjoin ! $ fjoin ! $
        feq_i ! (List Val) (vptr b o ∷ []) (vptr b o ∷ []) refl $ fjoin ! $ nothing ! $ move ! (3 ∷ 0 ∷ []) $ join ! $ join ! $ done !)
        (via 𝓤 _ (joining_met.met 𝓤 𝓛 𝓜 𝓡 wired E.row E.laws y) (weaker (joining_key.name (args E)) (vptr b o ∷ vint w64 n ∷
        []) (G.post y) (λ v. mean 𝓛 (joined E b o xs fs κ q v)) (λ v.
        qed 𝓛 (raw (G.post y v) ∷ []) ∵ updating ! $
        use1 𝓛 (later (items (λ (r : (Sr E).Denot). ((‵ (flft κ q) ⊛ ‵ ftrue) ⊛ ‵ ((Sr E).own_val r (v ∷
        []))) ⊛ items (λ (_ : Unit {0} × (Unit {0} × Unit {0})). ‵ (fsep ftrue (fsep ftrue ftrue)) ⊛ raw (fact 𝓤 (Are r)))))) (id⊢ 𝓤 (G.post y v)) $
        await ! tt $ pick ! (λ r. split ! $ split ! $ move ! (2 ∷ []) $ pick ! (λ _. split ! $ drop ! $ heard ! (Are r) (λ are. split ! $ move ! (2 ∷ []) $
        row_had E ! r (v ∷ []) (λ b' o' at is fits' room. row_made E ! r b' o' at fits' room $
        let there : row_val b' o' (slots_len r) ≡ row_val b o n = λ i. words_val ((sym at ∙ are.0) i) (are.1 i) in
        rewrite ! 0 (λ (u : Val). ‵ ((Sr E).own_val r (u ∷ []))) there refl $ now ! $
        show ! (λ (s : (Sr E).Denot). mean 𝓛 (given ((v ≡ row_val b o n) × Is_of E b o xs fs s) (Whole_of E s (row_val b o n) κ q))) r $
        check ! (ap only is ∙ there, are) $ keep ! (0 ∷ 1 ∷ []) $ done !)))))))
