-- A serving's reads and writes, over memory as it stands, are the serving that the plain definition says.
use Rattle.std.proofs.Common.{◌≡◌, ℕ, zero, suc, ◌-◌, ◌<◌, ◌≤◌, Bool, true, false, cond, eqb, leb, List, length, take, sym, refl, ap, ◌∙◌, subst, inl, inr, arith}
use Rattle.std.proofs.lemmas.Bool.{cases_Bool}
use Rattle.vring.specs.Words.{word}
use Rattle.vring.specs.Programs.{Prog, ret, get, then, pair, ends, leaves}
use Rattle.vring.specs.Plain.{plain}
use Rattle.vring.specs.Rings.{Ring, available_at, ends_at, head_at}
use Rattle.vring.proofs.Binds.{ends_then, leaves_then, ends_by, leaves_by}
use Rattle.chains.specs.Chains.{Walk, bad, goes, chain_prog, chain_from}
use Rattle.chains.specs.Usable.{usable}
use Rattle.chains.specs.declared.descriptor.Descriptor.{Descriptor}
use Rattle.chains.proofs.Meanings.{all_fit}
use Rattle.chains.proofs.Walks.{follows_plainly}
use Rattle.transfer.specs.Requests.{request, request_prog}
use Rattle.transfer.specs.Responses.{capacity, finish_prog, finished, Within}
use Rattle.transfer.proofs.Plainly.{gathers_plainly, finishes_plainly}
use Rattle.device.specs.Device.{Device}
use Rattle.device.proofs.Requests.{first_bytes}
use Rattle.model.specs.Serving.{pending_by, pending, head, chain, regions, Look, nothing, halt, job, look_chain, offer, look, State, cut, device_after, stop, done, act, serve, serve_times}
use Rattle.model.specs.Promises.{Sound}
use Rattle.model.proofs.Acts.{within_all}
use Rattle.model.proofs.Serves.{times_more, idle_stays, stays_stopped, ring_stands, serve_sound, serve_length}
use Rattle.serving.specs.Turns.{take_prog, next_prog, look_prog, Turn, turned, act_prog, turn_prog, run_prog}
use Rattle.serving.proofs.Turning.{Runs, turn_stopped, turn_looks, run_ends, run_more}

-- ## Look
-- a look keeps the first bytes of a request
abbrev first_of : Look → Look
first_of nothing = nothing
first_of halt = halt
first_of (job i ds q) = job i ds (take 19 q)

-- its parts lie in memory
abbrev Inside : (n : ℕ) → Look → Type 0
Inside n nothing = Unit {0}
Inside n halt = Unit {0}
Inside n (job i ds q) = Within n ds

-- a program that only looks finds l
unfoldable Finds : Prog Look → Look → List ℕ → Type 0
Finds p l m = (ends plain p m ≡ first_of l) × (leaves plain p m ≡ m) × Inside (length m) l

finds_ret : (l : Look) (m : List ℕ) → first_of l ≡ l → Inside (length m) l → Finds (ret l) l m
unfolding Finds
finds_ret l m e i = (sym e, refl, i)

finds_cond : (b : Bool) (p q : Prog Look) (k l : Look) (m : List ℕ) → (b ≡ true → Finds p k m) → (b ≡ false → Finds q l m) → Finds (cond b p q) (cond b k l) m
finds_cond true p q k l m f g = f refl
finds_cond false p q k l m f g = g refl

-- a request that was gathered
finds_job : (h : ℕ) (ds : List Descriptor) (m : List ℕ) → Within (length m) ds → Finds (then (request_prog 19 ds) (λ q. ret (job h ds q))) (job h ds (request m ds)) m
unfolding Finds
finds_job h ds m i =
    let g = gathers_plainly 19 ds m i in let k = λ (q : List ℕ). ret (job h ds q) in
    (ends_then plain (request_prog 19 ds) k m ∙ ap (job h ds) g.0, leaves_then plain (request_prog 19 ds) k m ∙ g.1, i)

finds_take : (r : Ring) (h : ℕ) (w : Walk) (m : List ℕ) → Finds (take_prog r (length m) h w) (look_chain r m h w) m
unfolding take_prog look_chain
finds_take r h bad m = finds_ret halt m refl tt
finds_take r h (goes ds) m =
    finds_cond (usable (regions r) (length m) false ds) (then (request_prog 19 ds) (λ q. ret (job h ds q))) (ret halt) (job h ds (request m ds)) halt m
    (λ u. finds_job h ds m (within_all (regions r) (length m) ds (all_fit (regions r) (length m) false ds u)))
    (λ _. finds_ret halt m refl tt)

-- a chain that was followed
finds_walk : (f t n h : ℕ) (k : Walk → Prog Look) (l : Walk → Look) (m : List ℕ) → ((w : Walk) → Finds (k w) (l w) m) → Finds (then (chain_prog f t n h) k) (l (chain_from f t n m h)) m
unfolding Finds
finds_walk f t n h k l m g =
    let w = follows_plainly f t n h m in let b = g (chain_from f t n m h) in (
      ends_by plain (chain_prog f t n h) k m m (chain_from f t n m h) (sym w.0) (sym w.1) ∙ b.0,
      leaves_by plain (chain_prog f t n h) k m m (chain_from f t n m h) (sym w.0) (sym w.1) ∙ b.1,
      b.2,
    )

-- a number that was read
finds_get : (a : ℕ) (k : ℕ → Prog Look) (l : Look) (m : List ℕ) → Finds (k (word m a)) l m → Finds (get pair a k) l m
unfolding Finds
finds_get a k l m f = f

finds_next : (r : Ring) (s : ℕ) (m : List ℕ) → Finds (next_prog r (length m) s) (offer r m s) m
unfolding next_prog offer head chain
finds_next r s m =
    let h = word m (head_at r s) in
    finds_get (head_at r s) (λ i. then (chain_prog r.size r.base r.size i) (λ w. take_prog r (length m) i w)) _ m
    (finds_walk r.size r.base r.size h (λ w. take_prog r (length m) h w) (look_chain r m h) m (λ w. finds_take r h w m))

finds_look : (r : Ring) (s : ℕ) (m : List ℕ) → Finds (look_prog r (length m) s) (look r m s) m
unfolding look_prog look pending
finds_look r s m =
    let p = pending_by (word m (available_at r)) s in
    finds_get (available_at r) (λ c. cond (eqb (pending_by c s) 0) (ret nothing) (cond (leb (pending_by c s) r.size) (next_prog r (length m) s) (ret halt))) _ m
    (finds_cond (eqb p 0) (ret nothing) (cond (leb p r.size) (next_prog r (length m) s) (ret halt)) nothing (cond (leb p r.size) (offer r m s) halt) m
    (λ _. finds_ret nothing m refl tt)
    (λ _. finds_cond (leb p r.size) (next_prog r (length m) s) (ret halt) (offer r m s) halt m (λ _. finds_next r s m) (λ _. finds_ret halt m refl tt)))

-- ## A turn
-- whether a look found a chain to be served
abbrev pub is_job : Look → Bool
is_job nothing = false
is_job halt = false
is_job (job i ds q) = true

-- a program that ends in the state x
abbrev ComesTo : Prog Turn → List ℕ → Bool → State → Type 0
ComesTo p m b x = (ends plain p m ≡ turned b x.device) × (leaves plain p m ≡ x.memory)

acts_alone : (r : Ring) (b : State) (l : Look) → 0 < r.size → ends_at r ≤ length b.memory → Inside (length b.memory) l → ComesTo (act_prog r b.device (first_of l)) b.memory (is_job l) (act r b l)
unfolding act_prog act stop done cut
acts_alone r b nothing p f i = (refl, refl)
acts_alone r b halt p f i = (refl, refl)
acts_alone r b (job h ds q) p f i =
    let d = b.device in let m = b.memory in
    let same = first_bytes d.kept q in
    let fin = finish_prog r d.served h ds (cut d.kept ds (take 19 q)) in
    let k = λ (u : Unit {0}). ret (turned true (device_after d (take 19 q))) in (
      ends_then plain fin k m ∙ ap {B = Turn} (λ x. turned true (record { kept = x; served = (device_after d q).served; stopped = false })) same.1,
      leaves_then plain fin k m
          ∙ (finishes_plainly r d.served h ds (cut d.kept ds (take 19 q)) m p f i ∙ ap (λ x. finished r d.served h ds (take (capacity ds) x) m) same.0),
    )

-- a turn of a device that has not stopped
turns_alone : (r : Ring) (b : State) → 0 < r.size → ends_at r ≤ length b.memory → b.device.stopped ≡ false →
    ComesTo (turn_prog r (length b.memory) b.device) b.memory (is_job (look r b.memory b.device.served)) (act r b (look r b.memory b.device.served))
unfolding Finds
turns_alone r b p f s =
    let d = b.device in let m = b.memory in let l = look r m d.served in
    let looks = look_prog r (length m) d.served in let k = λ (x : Look). act_prog r d x in
    let found = finds_look r d.served m in
    let e = turn_looks plain r (length m) d m s in
    let a = acts_alone r b l p f found.2 in (
      ap (λ q. ends plain q m) e ∙ (ends_by plain looks k m m (first_of l) (sym found.0) (sym found.1) ∙ a.0),
      ap (λ q. leaves plain q m) e ∙ (leaves_by plain looks k m m (first_of l) (sym found.0) (sym found.1) ∙ a.1),
    )

-- ## Many
-- a program of servings ends in the state x
abbrev pub Plays : Prog Device → List ℕ → State → Type 0
Plays p m x = (ends plain p m ≡ x.device) × (leaves plain p m ≡ x.memory)

serve_acts : (r : Ring) (b : State) → b.device.stopped ≡ false → serve r b ≡ act r b (look r b.memory b.device.served)
unfolding serve
serve_acts r b s = ap (λ x. cond x b (act r b (look r b.memory b.device.served))) s

-- nothing was served, and the device stays as it then is
rests : (f : ℕ) (r : Ring) (b x : State) → ComesTo (turn_prog r (length b.memory) b.device) b.memory false x → serve_times (suc f) r b ≡ x → Plays (run_prog (suc f) r (length b.memory) b.device) b.memory (serve_times (suc f) r b)
rests f r b x t e =
    let u = run_ends plain r (length b.memory) b.device b.memory (suc f) x.memory x.device (omega arith) (t.0, sym t.1) in
    (u.0 ∙ ap (λ y. y.device) (sym e), sym u.1 ∙ ap (λ y. y.memory) (sym e))

-- a chain was served, and the others follow
goes_on : (f : ℕ) (r : Ring) (b : State) → Sound r b → ComesTo (turn_prog r (length b.memory) b.device) b.memory true (serve r b) →
    Plays (run_prog f r (length (serve r b).memory) (serve r b).device) (serve r b).memory (serve_times f r (serve r b)) → Plays (run_prog (suc f) r (length b.memory) b.device) b.memory (serve_times (suc f) r b)
goes_on f r b h t v =
    let x = serve r b in let y = serve_times f r x in
    let k : suc f - 1 ≡ f = omega arith in
    let w : Runs plain r (length b.memory) x.device x.memory f y.memory y.device = subst (λ n. Runs plain r n x.device x.memory f y.memory y.device) (serve_length r b h) (v.0, sym v.1) in
    let u = run_more plain r (length b.memory) b.device x.device y.device b.memory x.memory y.memory (suc f) (omega arith) (t.0, sym t.1) (rw k w) in
    (u.0 ∙ ap (λ z. z.device) (sym (times_more f r b)), sym u.1 ∙ ap (λ z. z.memory) (sym (times_more f r b)))

by_look : (f : ℕ) (r : Ring) (b : State) → Sound r b → b.device.stopped ≡ false →
    Plays (run_prog f r (length (serve r b).memory) (serve r b).device) (serve r b).memory (serve_times f r (serve r b)) →
    (l : Look) → look r b.memory b.device.served ≡ l → ComesTo (turn_prog r (length b.memory) b.device) b.memory (is_job l) (act r b l) →
    Plays (run_prog (suc f) r (length b.memory) b.device) b.memory (serve_times (suc f) r b)
unfolding act stop
by_look f r b h s v nothing e t = rests f r b b t (idle_stays (suc f) r b e)
by_look f r b h s v halt e t =
    rests f r b (stop b) t (times_more f r b ∙ (ap (serve_times f r) (serve_acts r b s ∙ ap (act r b) e) ∙ stays_stopped r (stop b) f refl))
by_look f r b h s v (job i ds q) e t =
    let x = done r b i ds q in
    goes_on f r b h (subst (λ y. ComesTo (turn_prog r (length b.memory) b.device) b.memory true y) (sym (serve_acts r b s ∙ ap (act r b) e)) t) v

none_alone : (r : Ring) (b : State) → Plays (run_prog zero r (length b.memory) b.device) b.memory (serve_times zero r b)
unfolding run_prog serve_times
none_alone r b = (refl, refl)

pub runs_alone : (f : ℕ) (r : Ring) (b : State) → Sound r b → Plays (run_prog f r (length b.memory) b.device) b.memory (serve_times f r b)
runs_alone zero r b h = none_alone r b
runs_alone (suc f) r b h =
    let d = b.device in let m = b.memory in let l = look r m d.served in let st = ring_stands r b h in
    elim (cases_Bool d.stopped) [
      | inl s ↦ let t = turn_stopped plain r (length m) d m s in rests f r b b (t.0, sym t.1) (stays_stopped r b (suc f) s)
      | inr s ↦ by_look f r b h s (runs_alone f r (serve r b) (serve_sound r b h)) l refl (turns_alone r b st.some st.within s)
    ]
