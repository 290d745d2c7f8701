-- That an address lies in a block is so in one way: so a struct may keep where it has found a block.
use Rattle.std.specs.Coded.{Unit-prop}
use denote.RawPtr.{Ptr, InBlock, block_ptr, null_ptr}

pub in_block_prop : (p : Ptr) → IsProp (InBlock p)
in_block_prop (block_ptr b o) = Unit-prop
in_block_prop null_ptr = λ x y. absurd x
