-- Each move keeps what every heap that counts late keeps.
use Rattle.std.proofs.Common.{◌≡◌}
use Rattle.rec_model.proofs.Common.{Pending, AccountMove, IsAccounted}
use Rattle.rec_model.specs.Moves.AccountMove.{put, register, birth, crossing, leaving, request, batch, release, clearing, freeing, dropping}
use Rattle.rec_model.proofs.MutatorMoves.{put_accounted, register_accounted, birth_accounted, crossing_accounted, leaving_accounted}
use Rattle.rec_model.proofs.CollectorMoves.{request_accounted, batch_accounted, release_accounted, clearing_accounted, freeing_accounted, drop_accounted}

pub move_accounted : {w v : Pending} → AccountMove w v → IsAccounted w → IsAccounted v
move_accounted {w} {v} (put {epoch} {place} {new} s) i = put_accounted w v epoch place new s i
move_accounted {w} {v} (register {epoch} {old} {new} s) i = register_accounted w v epoch old new s i
move_accounted {w} {v} (birth {epoch} {old} {node} s) i = birth_accounted w v epoch old node s i
move_accounted {w} {v} (crossing {epoch} {names} s) i = crossing_accounted w v epoch names s i
move_accounted {w} {v} (leaving s) i = leaving_accounted w v s i
move_accounted {w} {v} (request s) i = request_accounted w v s i
move_accounted {w} {v} (batch s) i = batch_accounted w v s i
move_accounted {w} {v} (release {node} s) i = release_accounted w v node s i
move_accounted {w} {v} (clearing {place} s) i = clearing_accounted w v place s i
move_accounted {w} {v} (freeing {node} s) i = freeing_accounted w v node s i
move_accounted {w} {v} (dropping s) i = drop_accounted w v s i

-- no move changes how many fields an object has
pub move_fields : {w v : Pending} → AccountMove w v → v.fields ≡ w.fields
move_fields (put s) = s.epochs.fields
move_fields (register s) = s.epochs.fields
move_fields (birth s) = s.epochs.fields
move_fields (crossing s) = s.epochs.fields
move_fields (leaving s) = s.epochs.fields
move_fields (request s) = s.fields
move_fields (batch s) = s.fields
move_fields (release s) = s.epochs.fields
move_fields (clearing s) = s.epochs.fields
move_fields (freeing s) = s.epochs.fields
move_fields (dropping s) = s.epochs.fields
