-- The one induction over programs: a property of readers that every combinator keeps holds of every program; or, where it is kept only while the names
-- that are entered pass a test, of every program whose names do.
use Prim.Native.Nat.{ℕ, zero, suc}
use mathlib.Core.List.{List, map}
use mathlib.Core.Bool.{Bool, true, ◌&&◌}
use lib.Dec.{T}
use Rattle.kinds.specs.Sets.{id_of}
use Rattle.definition.specs.Prog.{Production, Prog, eat, unless, ifnext, opt, many, then, ◌⨟◌, ◌⫽◌, last, recover, node, memo}
use Rattle.definition.specs.Grammar.{grammar, kind}
use Rattle.definition.specs.Run.{Reader, eats, refuses, fails, thens, branches, alts, opts, loops, memos, nodes, recovery, exec, run}
use Rattle.definition.proofs.Every.{and_left, and_right, both}

pub record Kept (G : Reader → Type 0) : Type 0 where
  pub at_id : G (λ s. s)
  pub at_eat : (S N : List ℕ) → G (eats S N)
  pub at_unless : (S : List ℕ) → G (refuses S)
  pub at_ifnext : (S : List ℕ) (f : Reader) → G f → G (branches S f)
  pub at_opt : (f : Reader) → G f → G (opts f)
  pub at_many : (f : Reader) → G f → G (loops f)
  pub at_then : (f : Reader) → G f → G (thens f)
  pub at_seq : (f g : Reader) → G f → G g → G (λ s. g (f s))
  pub at_alt : (f g : Reader) → G f → G g → G (alts f g)
  pub at_fail : G fails
  pub at_recover : (d : ℕ) (o : Bool) (S : List ℕ) → G (recovery d o S)
  pub at_memo : (a : ℕ) (f : Reader) → G f → G (memos a f)
  pub at_node : (d : ℕ) (o : Bool) (a : ℕ) (f : Reader) → G f → G (nodes d o a f)

-- the lists of names that a program enters pass a test
abbrev pub enters : (List ℕ → Bool) → Prog → Bool
enters c (eat S N) = c N
enters c (unless S) = true
enters c (ifnext S p) = c (map id_of S) && enters c p
enters c (opt p) = enters c p
enters c (many p) = enters c p
enters c (then p) = enters c p
enters c (p ⨟ q) = enters c p && enters c q
enters c (p ⫽ q) = enters c p && enters c q
enters c (last p) = enters c p
enters c (recover S) = c (map id_of S)
enters c (node a) = true
enters c (memo a) = true

-- what every combinator but a production keeps
pub record JoinedIf (c : List ℕ → Bool) (G : Reader → Type 0) : Type 0 where
  pub at_eat : (S N : List ℕ) → T (c N) → G (eats S N)
  pub at_unless : (S : List ℕ) → G (refuses S)
  pub at_ifnext : (S : List ℕ) → T (c (map id_of S)) → (f : Reader) → G f → G (branches S f)
  pub at_opt : (f : Reader) → G f → G (opts f)
  pub at_many : (f : Reader) → G f → G (loops f)
  pub at_then : (f : Reader) → G f → G (thens f)
  pub at_seq : (f g : Reader) → G f → G g → G (λ s. g (f s))
  pub at_alt : (f g : Reader) → G f → G g → G (alts f g)
  pub at_fail : G fails
  pub at_recover : (d : ℕ) (o : Bool) (S : List ℕ) → T (c (map id_of S)) → G (recovery d o S)
  pub at_memo : (a : ℕ) (f : Reader) → G f → G (memos a f)

pub record KeptIf (c : List ℕ → Bool) (G : Reader → Type 0) : Type 0 where
  pub joined : JoinedIf c G
  pub at_id : G (λ s. s)
  pub at_node : (d : ℕ) (o : Bool) (a : ℕ) (f : Reader) → G f → G (nodes d o a f)

module _ {c : List ℕ → Bool} {G : Reader → Type 0} (K : JoinedIf c G) where
  pub exec_joined_if : (d : ℕ) (call : Bool → Production → Reader) → ((o : Bool) (a : Production) → G (call o a)) → (p : Prog) → T (enters c p) → (o : Bool) → G (exec d call p o)
  exec_joined_if d call g (eat S N) t o = K.at_eat S N t
  exec_joined_if d call g (unless S) t o = K.at_unless S
  exec_joined_if d call g (ifnext S p) t o =
      K.at_ifnext S (and_left (c (map id_of S)) (enters c p) t) (exec d call p o) (exec_joined_if d call g p (and_right (c (map id_of S)) (enters c p) t) o)
  exec_joined_if d call g (opt p) t o = K.at_opt (exec d call p true) (exec_joined_if d call g p t true)
  exec_joined_if d call g (many p) t o = K.at_many (exec d call p true) (exec_joined_if d call g p t true)
  exec_joined_if d call g (then p) t o = K.at_then (exec d call p o) (exec_joined_if d call g p t o)
  exec_joined_if d call g (p ⨟ q) t o =
      K.at_seq (exec d call p o) (exec d call q o) (exec_joined_if d call g p (and_left (enters c p) (enters c q) t) o)
      (exec_joined_if d call g q (and_right (enters c p) (enters c q) t) o)
  exec_joined_if d call g (p ⫽ q) t o =
      K.at_alt (exec d call p true) (exec d call q o) (exec_joined_if d call g p (and_left (enters c p) (enters c q) t) true)
      (exec_joined_if d call g q (and_right (enters c p) (enters c q) t) o)
  exec_joined_if d call g (last p) t o = K.at_alt (exec d call p true) fails (exec_joined_if d call g p t true) K.at_fail
  exec_joined_if d call g (recover S) t o = K.at_recover d o S t
  exec_joined_if d call g (node a) t o = g o a
  exec_joined_if d call g (memo a) t o = K.at_memo (kind a) (call o a) (g o a)

module _ {c : List ℕ → Bool} {G : Reader → Type 0} (K : KeptIf c G) where
  pub exec_kept_if : (d : ℕ) (call : Bool → Production → Reader) → ((o : Bool) (a : Production) → G (call o a)) → (p : Prog) → T (enters c p) → (o : Bool) → G (exec d call p o)
  exec_kept_if = exec_joined_if K.joined

  pub run_kept_if : (E : Bool) → ((a : Production) → T (enters c (grammar E a))) → (d : ℕ) (o : Bool) (a : Production) → G (run E d o a)
  run_kept_if E e zero o a = K.at_node zero o (kind a) (λ s. s) K.at_id
  run_kept_if E e (suc d) o a =
      K.at_node (suc d) o (kind a) (exec d (run E d) (grammar E a) o) (exec_kept_if d (run E d) (λ o b. run_kept_if E e d o b) (grammar E a) (e a) o)

pub any_enter : (p : Prog) → T (enters (λ N. true) p)
any_enter (eat S N) = tt
any_enter (unless S) = tt
any_enter (ifnext S p) = any_enter p
any_enter (opt p) = any_enter p
any_enter (many p) = any_enter p
any_enter (then p) = any_enter p
any_enter (p ⨟ q) = both (enters (λ N. true) p) (enters (λ N. true) q) (any_enter p) (any_enter q)
any_enter (p ⫽ q) = both (enters (λ N. true) p) (enters (λ N. true) q) (any_enter p) (any_enter q)
any_enter (last p) = any_enter p
any_enter (recover S) = tt
any_enter (node a) = tt
any_enter (memo a) = tt

module _ {G : Reader → Type 0} (K : Kept G) where
  whatever : KeptIf (λ N. true) G
  whatever = record { joined = record { at_eat = λ S N t. K.at_eat S N; at_unless = K.at_unless; at_ifnext = λ S t. K.at_ifnext S; at_opt = K.at_opt; at_many = K.at_many; at_then = K.at_then; at_seq = K.at_seq; at_alt = K.at_alt; at_fail = K.at_fail; at_recover = λ d o S t. K.at_recover d o S; at_memo = K.at_memo }; at_id = K.at_id; at_node = K.at_node }

  pub exec_kept : (d : ℕ) (call : Bool → Production → Reader) → ((o : Bool) (a : Production) → G (call o a)) → (p : Prog) (o : Bool) → G (exec d call p o)
  exec_kept d call g p o = exec_kept_if whatever d call g p (any_enter p) o

  pub run_kept : (E : Bool) (d : ℕ) (o : Bool) (a : Production) → G (run E d o a)
  run_kept E d o a = run_kept_if whatever E (λ b. any_enter (grammar E b)) d o a
