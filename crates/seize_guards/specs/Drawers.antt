-- What the holder of a `&` to a drawer has.
use Rattle.std.specs.Prelude.{ℕ, List}
use mir.Val.{Val}
use base.Fraction.{full_share}
use base.Fml.{Lft, Fml, ffalse, ftrue, fsep, fex}
use denote.RattleType.{RattleType}
use denote.Memory.{cell_at}
use denote.RawPtr.{Ptr, block_ptr, null_ptr}
use denote.Sharing.{said}
use denote.Hidden.{guarded}

module _ (F : RattleType) (Fits : F.Denot → Type 0) where
  -- fields that fit, at these machine values
  abbrev pub fitting : List Val → Fml
  fitting vs = fex F.Denot (λ i. fsep (F.own_val i vs) (fex (Fits i) (λ _. ftrue)))

  -- the same in memory
  abbrev pub lies : ℕ → ℕ → Fml
  lies b o = fex (List Val) (λ vs. fsep (cell_at full_share F.mir vs b o) (fitting vs))

  -- the thread's token opens it, and such fields lie there again afterwards
  abbrev pub lies_behind : Ptr → Lft → Fml
  lies_behind (block_ptr b o) = guarded (b, o) (lies b o)
  lies_behind null_ptr = said ffalse
