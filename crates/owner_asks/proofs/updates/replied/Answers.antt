-- It has come to what it was told, or its key comes back.
use Rattle.owner_asks.proofs.updates.replied.Goals as goal

pub key_of-key-requires : goal.key_of-key-requires
key_of-key-requires g c = let r = c.requires in (r.2, c.in-Err.ensures.key r.0 r.1 r.2 _ r.3 r.4 r.5)

pub returns-in-Ok : goal.returns-in-Ok
returns-in-Ok g c = record { comes = λ xs kind key asked p taken. c.in-Ok.ensures.ends xs kind _ _ asked p taken; ran = c.in-Ok.ensures.ran }

pub returns-in-Err : goal.returns-in-Err
returns-in-Err g c = record {
  comes = λ xs kind key asked p taken. (c.in-Err.ensures.ends xs kind _ _ asked p taken, c.key_of-key.ensures key (c.in-Err.ensures.key xs kind key _ asked p taken));
  ran = c.in-Err.ensures.ran;
}
