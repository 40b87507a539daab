-- `begin_anew` meets its contract, by hand: a walk of its code. The state is passed on to `reset` at its own lifetime, and nothing is lent again.
use Rattle.std.proofs.Common.{◌≡◌, ℕ, ◌^◌, ◌<◌, List, [], ◌∷◌, length, refl, MutBor}
use seplogic.Ra.Ura.{Ura}
use base.Logic.{SProp, ent, sep, emp, via, fst∗, id⊢}
use base.Fml.{GName, Lft, Share, Fml, fsep, feq, ftrue, flft, fbor}
use contract.Monad.{Fun, fact}
use contract.Running.{tables, tables_of}
use denote.Builtin.{u32}
use denote.Laws.{Is, shows}
use denote.Memory.{mem as in_memory}
use denote.RattleType.{owns}
use denote.Signature.{plain}
use denote.Slice.{MutSlice, finally, slice_val, mut_slice_vals, mut_slice_Tells}
use denote.Steps.{heard, peeks, nothing}
use denote.Triple.Call.{calls_at}
use denote.Triple.Clauses.{Clauses, closing}
use denote.Triple.Entry.{on_entry}
use denote.Triple.Spec.{Meets, triple_of}
use denote.Triple.Statement.{Triple, Contract}
use denote.Triple.Table.{entered}
use denote.Triple.Walked.{says, Stays, gave_slice, walk_of, ends_at, walked, Goes-gave_slice, walk_Meets}
use types.Logic.{Logic, sem}
use mir.Syntax.{named}
use mir.Val.{Val}
use prog.Memory.{Memory}
use prog.Routine.{Routine}
use prog.Wp.{WpFn, Tables}
use sound.WpLaws.{WpFn-mono, fm_of}
use types.ByLocal.{alloc_all, pass_all, free_all, look_at, look_in_at, get, get_in, sets, lands_as}
use types.Hole.{Holey}
use types.Kit.{raw, some, later, await, pick, use1, ‵, ◌⊛◌, ◌$◌, ◌∵◌, !, qed, by, move, keep, split, join, fsplit, fjoin, feq_l, suffices, frame, done}
use types.Part.{whole, sub, agg}
use types.Run.{stop, fld, hop, from, addr, and_then, no_more, returns, enter}
use types.SemTy.{Arr, Body as Borrowed}
use Rattle.serving.specs.declared.done.Done.{Done}
use Rattle.serving.specs.contracts.done.Done.{the_row}
use Rattle.serving.proofs.done.Done.TheLaws.{the_row_laws}
use Rattle.serving.specs.Entries.{AnewSays}
use Rattle.serving.specs.contracts.entries.begin_anew.{ended, clauses}
use Rattle.serving.specs.contracts.entries.begin_anew.Key.{name as #self}
use Rattle.serving.proofs.entries.begin_anew.Statement as stated
use Rattle.serving.proofs.entries.begin_anew.Code as code
use Rattle.serving.specs.contracts.entries.reset as reset·
use Rattle.serving.proofs.entries.reset.Symbol as reset·sym
use Rattle.serving.proofs.entries.reset.Met as reset_met

abbrev stayed : Stays ended.signature.params ended.kept
stayed = (gave_slice (0 ∷ []) tt (plain (λ _. u32)), tt)

module _ {M : Type 1} {𝓤 : Ura M} (𝓛 : Logic 𝓤) (memory : Memory → SProp 𝓤) (run : Routine → Fun 𝓤) where
  open 𝓛 use {H, A}

  abbrev held : Clauses 𝓤 ended
  held = clauses 𝓛 memory run

  abbrev Reset : Contract 𝓤
  Reset = triple_of 𝓛 reset·.signature (reset·.spec 𝓛 memory run)

  module _ (κ : Lft) (q : Share) (b o : ℕ) (γ : GName) (ys : List ℕ) where
    abbrev x : MutBor (List ℕ)
    x = record { ref_ptr = (b, o); ghost_name = γ; now = ys }

    abbrev bound : (walk_of 𝓛 ended stayed held).Ghost
    bound = (((κ, tt), (q, tt), tt, (x, tt), (slice_val (b, o) (length ys) ∷ [], tt)), tt)

    abbrev asks : Reset.Ghost
    asks = (((κ, tt), (q, tt), tt, (x, tt), (slice_val (b, o) (length ys) ∷ [], tt)), tt)

    abbrev Back : Fml
    Back = fbor κ (Borrowed (Arr (Holey (in_memory u32)) (length ys)) b o γ)

    abbrev Post : Val → SProp 𝓤
    Post = (walk_of 𝓛 ended stayed held).post bound

    exits : (u : Val) (r : Done) (ws : List ℕ) → length ws ≡ length ys → AnewSays ys r ws → ent 𝓤 (sep 𝓤 (A.lft κ q) (sep 𝓤 (sem 𝓛 (fsep (finally u32 γ ws) Back)) (sem 𝓛 (the_row.own_val r (u ∷ []))))) (Post u)
    exits u r ws n e =
        qed 𝓛 (‵ (flft κ q) ∷ ‵ (fsep (finally u32 γ ws) Back) ∷ ‵ (the_row.own_val r (u ∷ [])) ∷ []) ∵ suffices ! _ (ends_at 𝓛 ended stayed held bound u r (ws, tt) (n, tt)) $ says ! e $
        nothing ! $ move ! (1 ∷ 0 ∷ []) $ join ! $ frame ! $ nothing ! $ move ! (1 ∷ 0 ∷ []) $ fjoin ! $ done !

    walk : (𝓣 : Tables 𝓤 H) → Triple 𝓤 (𝓣.C reset·sym.name) Reset → length ys < 2 ^ 64
        → ent 𝓤 (on_entry 𝓛 ended.signature (κ, tt) (q, tt) (x, tt) (slice_val (b, o) (length ys) ∷ [], tt)) (WpFn 𝓤 H 𝓣.C 𝓣.Λ code.function (slice_val (b, o) (length ys) ∷ []) Post)
    walk 𝓣 met fits =
        qed 𝓛 ((‵ (flft κ q) ⊛ ‵ ftrue) ∷ ‵ (owns (MutSlice (named 0) κ u32 ∷ []) (x, tt) (slice_val (b, o) (length ys) ∷ [], tt)) ∷ []) ∵
        enter ! 𝓣.C 𝓣.Λ code.function (slice_val (b, o) (length ys) ∷ []) _ $
        alloc_all ! (λ l. pass_all ! refl ((tt, (tt, (record { fits = fits }, tt))), tt) $
        -- &mut *state
        sets ! (addr ! (from ! (fld ! refl (hop ! (look_in_at ! 1 (sub ! 0 refl (whole !))) (stop !))))) refl (tt, tt) $
        sets ! (agg ! (and_then ! (get ! refl) (and_then ! (get_in ! (fld ! refl (stop !)) (sub ! 1 refl (whole !))) (no_more !)))) refl (tt, (tt, (record { fits = fits }, tt))) $
        -- reset(..)
        join ! $ nothing ! $ move ! (1 ∷ 0 ∷ []) $ join ! $ use1 𝓛 (raw (Reset.pre asks)) (id⊢ 𝓤 _) $
        calls_at ! (fm_of 𝓤 H 𝓛.laws 𝓣) Reset met asks (and_then ! (get ! refl) (no_more !)) (λ u.
        use1 𝓛 (later (some (λ (r : Done). ((‵ (flft κ q) ⊛ ‵ ftrue) ⊛ ‵ (the_row.own_val r (u ∷ []))) ⊛ some (λ (ws : List ℕ × Unit {0}). ‵ (fsep (fsep (fsep (finally u32 γ ws.0) (feq ℕ (length ws.0) (length ys))) Back) ftrue) ⊛ raw (fact 𝓤 (AnewSays ys r ws.0)))))) (id⊢ 𝓤 _) $ await ! tt $ pick ! (λ r.
        split ! $ move ! (1 ∷ []) $ pick ! (λ ws. split ! $ move ! (1 ∷ []) $ heard ! (AnewSays ys r ws.0) (λ e. fsplit ! $ fsplit ! $ fsplit ! $ move ! (1 ∷ []) $ feq_l ! (λ n.
        -- [the last value; the borrow; true; the token and the result; ..]
        fjoin ! $ move ! (2 ∷ []) $ split ! $ move ! (1 ∷ []) $ peeks ! the_row (Is the_row) (shows 𝓛 the_row) r (u ∷ []) (λ is.
        lands_as ! refl refl ((the_row_laws.lawful 𝓛).typed r (u ∷ []) is).0 $
        move ! (1 ∷ []) $ split ! $ returns ! (look_at ! 0 refl) $ free_all ! refl $ move ! (0 ∷ 3 ∷ 2 ∷ []) $ keep ! (0 ∷ 1 ∷ 2 ∷ []) $ by ! (exits u r ws.0 n e))))))))

  meets : (𝓣 : Tables 𝓤 H) → Triple 𝓤 (𝓣.C reset·sym.name) Reset → Meets 𝓛 ended.signature (WpFn 𝓤 H 𝓣.C 𝓣.Λ code.function) (closing 𝓛 ended held)
  meets 𝓣 met =
      walk_Meets 𝓛 ended stayed (Goes-gave_slice 𝓛 1 0 tt (plain (λ _. u32)), tt) held (WpFn 𝓤 H 𝓣.C 𝓣.Λ code.function) (WpFn-mono 𝓤 H 𝓛.laws 𝓣 code.function)
      (walked 𝓛 ended stayed held (WpFn 𝓤 H 𝓣.C 𝓣.Λ code.function) (λ κs. (mut_slice_vals, tt)) (λ κs. (mut_slice_Tells (named 0) κs.0 u32, tt))
      (λ κs qs bounds a g are. via 𝓤 _ (fst∗ 𝓤 _ (emp 𝓤)) (walk κs.0 qs.0 a.0.ref_ptr.0 a.0.ref_ptr.1 a.0.ghost_name a.0.now 𝓣 met are.0.0.1.0)))

pub begin_anew_spec : {M : Type 1} → stated.statement M
unfolding tables_of
begin_anew_spec 𝓤 𝓛 𝓜 𝓡 wired =
    let A = 𝓛.A in
    let 𝓣 : Tables 𝓤 𝓛.H = tables_of 𝓤 𝓛.H 𝓜 (tables 𝓤 𝓛.H 𝓜 𝓡 𝓡.env) in
    entered 𝓤 𝓛.H (triple_of 𝓛 ended.signature (closing 𝓛 ended (clauses 𝓛 𝓜.mem 𝓡.returns))) 𝓣.C 𝓣.Λ #self code.function (code.unfolded 𝓤 𝓛.H 𝓜 𝓡 wired)
    (meets 𝓛 𝓜.mem 𝓡.returns 𝓣 (reset_met.met 𝓤 𝓛 𝓜 𝓡 (code.calls-serving::entries::reset 𝓡.env wired)))
