-- The rooms left fall.
use Rattle.mesh_file.proofs.input.+read_in.Given as goal

abbrev pub decreases-read_in : goal.decreases-read_in
decreases-read_in g l = l.rooms
