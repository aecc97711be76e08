-- Nodes by their numbers. Assumes nothing.
use Rattle.std.specs.Prelude.{ℕ, ◌-◌, cond, nat_lt}
use Rattle.tables.specs.declared.node.Node.{Node}
use Rattle.tables.specs.declared.node.Node.TheVariants.{Member, Blossom}

abbrev pub node_of : ℕ → Node
node_of n = cond (nat_lt n 200) (Member n) (Blossom (n - 200))
