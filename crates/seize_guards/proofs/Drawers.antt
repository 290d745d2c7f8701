-- What lies in a drawer is one machine value: it is taken out and put in by value, and reached through a `&` with the thread's token. Assumes `Logic`.
use Rattle.std.proofs.Common.{T, IfSome, None, Some, ◌≡◌, ℕ, List, [], ◌∷◌, refl}
use seplogic.Ra.Ura.{Ura}
use mir.Val.{Val}
use base.Fraction.{full_share}
use base.Logic.{sep, wand, apply∗}
use base.Fml.{Lft, Share, Fml, Incl-refl, ftrue, fsep, fex, fat, flft, ftok}
use base.Mask.{every, less}
use types.Logic.{Logic, sem}
use types.Kit.{Item, Goal, Seq, Step, Soaks, step, ‵, raw, ◌⊛◌, later, ◌$◌, move, drop, use1, use2, use3, split, join, fsplit, fjoin, fpick, fpack, rewrite, await}
use types.Na.{na_acc_in}
use denote.RattleType.{RattleType}
use denote.Exit.{Last, left, no}
use denote.Param.Mute.{blank}
use denote.Param.Laws.{Laws, param_laws}
use Rattle.core.proofs.option.Option.TheLaws.{the_row_laws as option_laws}
use denote.Laws.{Lawful}
use denote.Memory.{cell_at, hidden_shr, lone}
use denote.Opens.{unhide}
use denote.Param.{layout, param}
use denote.Steps.{nothing}
use denote.Struct.Members.{Member}
use Rattle.core.specs.contracts.option.Option as option
use Rattle.core.proofs.cell.Inside.{Good, round, wraps, unwraps}
use Rattle.seize_guards.specs.Drawers.{fitting, lies}
use Rattle.seize_guards.specs.declared.drawer.Labelled.{Ghosts}
use Rattle.seize_guards.specs.contracts.drawer.Drawer as drawer
use Rattle.seize_guards.specs.contracts.drawer.Drawer.TheInside as inside

module _ (Y : RattleType) (g : Ghosts Y.Denot) where
  abbrev pub R : RattleType
  R = param 0 Y

  abbrev pub Held : RattleType
  Held = option.the_row R

  abbrev pub held : Member
  held = record { row = Held; ty = layout Held }

  pub held_is_lawful : Laws Y → {M : Type 1} {𝓤 : Ura M} (𝓛 : Logic 𝓤) → Lawful 𝓛 Held
  held_is_lawful laws 𝓛 = (option_laws R (param_laws 0 Y laws)).lawful 𝓛

  -- where its value is gone it leaves nothing
  pub is_gone : (x : Held.Denot) (f : Last (Held.exit no) x) → T (blank (left (Held.exit no) x f))
  is_gone None f = tt
  is_gone (Some value) f = tt

  abbrev pub F : RattleType
  F = inside.the_row R g

  abbrev pub Is : ℕ → Held.Denot → Type 0
  Is n x = IfSome x (λ value. g.label value ≡ n)

  abbrev pub contents : ℕ → List Val → Fml
  contents n vs = fitting F (λ i. Is n i.value) vs

  abbrev P : ℕ → ℕ → ℕ → Fml
  P n b o = lies F (λ i. Is n i.value) b o

  abbrev pub Way : {M : Type 1} {𝓤 : Ura M} (𝓛 : Logic 𝓤) → ℕ → ℕ → ℕ → Lft → Share → Item 𝓤
  Way {𝓤 = 𝓤} 𝓛 n b o κ q =
      ‵ (ftok (less every (b, o))) ⊛ raw (wand 𝓤 (sep 𝓤 (sem 𝓛 (P n b o)) (𝓛.A.tok (less every (b, o)))) (𝓛.H.⇛ (sep 𝓤 (𝓛.A.lft κ q) (𝓛.A.tok every))))

  module _ {M : Type 1} {𝓤 : Ura M} {𝓛 : Logic 𝓤} {K : Type 0} {Γ : List (Item 𝓤)} {G : Goal 𝓤 𝓛.H} (n : ℕ) where
    pub takes_out : K → Lawful 𝓛 Held → (vs : List Val)
        → ((x : Held.Denot) (v : Val) → Is n x → Good (layout Held) v → vs ≡ round v ∷ [] → Seq K 𝓛 (‵ (Held.own_val x (v ∷ [])) ∷ Γ) G)
        → Seq K 𝓛 (‵ (contents n vs) ∷ Γ) G
    takes_out t L vs k = fpick t (λ i. fsplit t $ move t (1 ∷ []) $ fpick t (λ is. drop t $ unwraps held t L [] (Held ∷ []) i.value vs (λ v good e. k i.value v is good e)))

    pub puts_in : K → (x : Held.Denot) (v : Val) → Is n x → Step K 𝓛 (‵ (contents n (round v ∷ [])) ∷ Γ) G (‵ (Held.own_val x (v ∷ [])) ∷ Γ) G
    puts_in t x v is = step (λ s.
        let i : F.Denot = record { value = x } in
        use1 𝓛 (‵ (F.own_val i (round v ∷ []))) (wraps held 𝓛 [] (Held ∷ []) x v) $ nothing t $ fpack t (Is n x) (λ _. ftrue) is $ move t (1 ∷ 0 ∷ []) $ fjoin t $
        fpack t F.Denot (λ j. fsep (F.own_val j (round v ∷ [])) (fex (Is n j.value) (λ _. ftrue))) i $ s)

  module _ {M : Type 1} {𝓤 : Ura M} {𝓛 : Logic 𝓤} {K : Type 0} {Γ : List (Item 𝓤)} {G : Goal 𝓤 𝓛.H} (n b o : ℕ) where
    open 𝓛 use {H, A}

    pub opens : K → Soaks G → Lawful 𝓛 Held → {κ : Lft} {q : Share}
        → ((x : Held.Denot) (v : Val) → Is n x → Good (layout Held) v
        → Seq K 𝓛 (‵ (fat full_share (lone F.mir) b o (round v)) ∷ ‵ (Held.own_val x (v ∷ [])) ∷ Way 𝓛 n b o κ q ∷ Γ) G)
        → Seq K 𝓛 (‵ (hidden_shr (drawer.the_row R g) κ n b o) ∷ ‵ (flft κ q) ∷ ‵ (ftok every) ∷ Γ) G
    opens t z L {κ} {q} k =
        unhide t $ use3 𝓛 (later (‵ (P n b o) ⊛ Way 𝓛 n b o κ q)) (na_acc_in 𝓛 κ ((κ, q) ∷ []) every (b, o) (P n b o) (Incl-refl κ) refl) $ await t z $ split t $
        fpick t (λ vs. fsplit t $ move t (1 ∷ []) $ takes_out n t L vs (λ x v is good e.
        rewrite t 1 (λ (us : List Val). ‵ (cell_at full_share F.mir us b o)) e refl $ move t (1 ∷ []) $
        use1 𝓛 (‵ (fat full_share (lone F.mir) b o (round v))) (𝓛.laws.raw_at full_share (lone F.mir) b o (round v)) $ k x v is good))

    pub shuts : K → Soaks G → {κ : Lft} {q : Share} (x : Held.Denot) (v : Val) → Is n x
        → Step K 𝓛 (‵ (flft κ q) ∷ ‵ (ftok every) ∷ Γ) G (‵ (fat full_share (lone F.mir) b o (round v)) ∷ ‵ (Held.own_val x (v ∷ [])) ∷ Way 𝓛 n b o κ q ∷ Γ) G
    shuts t z {κ} {q} x v is = step (λ s.
        use1 𝓛 (‵ (cell_at full_share F.mir (round v ∷ []) b o)) (𝓛.laws.at_raw full_share (lone F.mir) b o (round v)) $ move t (1 ∷ []) $ puts_in n t x v is $
        move t (1 ∷ 0 ∷ []) $ fjoin t $ fpack t (List Val) (λ us. fsep (cell_at full_share F.mir us b o) (contents n us)) (round v ∷ []) $
        move t (1 ∷ []) $ split t $ move t (2 ∷ 0 ∷ []) $ join t $
        use2 𝓛 (later (‵ (flft κ q) ⊛ ‵ (ftok every))) (apply∗ 𝓤 (sep 𝓤 (sem 𝓛 (P n b o)) (A.tok (less every (b, o)))) (H.⇛ (sep 𝓤 (A.lft κ q) (A.tok every)))) $
        await t z $ split t $ s)
