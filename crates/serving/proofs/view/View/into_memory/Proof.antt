-- `into_memory` meets its contract at every kind of memory, by hand: a walk of its code, which is one statement, `_0 = &mut *_1.queue.memory`.
-- The view is taken apart into the borrow that lies in it, and that borrow is handed on as it is: with its place, its name and its value, so that whoever lent memory to the view knows what it is once the result is given up.
use Rattle.std.proofs.Common.{List, [], ◌∷◌, refl, w16, MutBor}
use seplogic.Ra.Ura.{Ura}
use base.Logic.{SProp, ent, sep, assoc∗, via, fst∗}
use base.Fml.{Lft, Share, fsep, ftrue, flft}
use contract.Lifetimes.{AllOutlive}
use contract.Monad.{Fun, fact}
use contract.Running.{tables, tables_of}
use denote.Builtin.{u16}
use denote.Exit.{no}
use denote.Laws.{Is, shows}
use denote.Param.{param, layouts}
use denote.Param.Laws.{Laws, param_laws}
use denote.RattleType.{RattleType, owns}
use denote.Ref.{MutRef}
use denote.Signature.{plain, named_lft}
use denote.Steps.{peeks, nothing}
use denote.Struct.Laws as LL
use denote.Triple.Clauses.{Clauses, closing}
use denote.Triple.Entry.{on_entry}
use denote.Triple.Spec.{Meets, triple_of}
use denote.Triple.Table.{entered}
use denote.Triple.Walked.{says, Stays, stay_dropped, walk_of, ends_at, walked, Goes, walk_Meets}
use types.Logic.{Logic, sem}
use mir.MapTy.{inst_fn}
use mir.Syntax.{Fn, named, a_type}
use mir.Val.{Val, vint, vptr, vstruct, vnil, vcons}
use prog.Memory.{Memory}
use prog.Routine.{Routine}
use prog.Wp.{Calls, Loops, WpFn, Tables}
use sound.WpLaws.{WpFn-mono}
use types.ByLocal.{alloc_all, pass_all, free_all, look_at, look_in_at, sets}
use types.Kit.{Item, Step, step, prop, raw, ‵, ◌⊛◌, ◌$◌, ◌∵◌, !, qed, by, move, keep, drop, split, split3, join, fsplit, fsplit3, fpick, feq_l, feq_i, fjoin, fjoin3, suffices, updating, now as at_once, done}
use types.Part.{whole, sub}
use types.Run.{stop, fld, addr, hop, from, returns, enter}
use Rattle.serving.specs.declared.view.View.{View}
use Rattle.serving.specs.contracts.view.View.{the_type, the_row}
use Rattle.serving.proofs.view.View.TheLaws.{the_laws}
use Rattle.serving.specs.contracts.view.View.into_memory.{ended, clauses}
use Rattle.serving.specs.contracts.view.View.into_memory.Key.{name as #self}
use Rattle.serving.proofs.view.View.into_memory.Statement as stated
use Rattle.serving.proofs.view.View.into_memory.Code as code

-- a goal P ∗ (⌜φ⌝ ∗ ⌜ψ⌝), as two clauses make it: both are shown, and P is left
say_both : {M : Type 1} {𝓤 : Ura M} {𝓛 : Logic 𝓤} {K : Type 0} {Γ : List (Item 𝓤)} → K → {φ ψ : Type 0} {P : SProp 𝓤} → φ → ψ → Step K 𝓛 Γ (prop P) Γ (prop (sep 𝓤 P (sep 𝓤 (fact 𝓤 φ) (fact 𝓤 ψ))))
say_both {𝓤 = 𝓤} {𝓛 = 𝓛} t {φ} {ψ} {P} x y = step (λ s. record { prf = via 𝓤 P s.prf (via 𝓤 (sep 𝓤 (sep 𝓤 P (fact 𝓤 φ)) (fact 𝓤 ψ)) (qed 𝓛 (raw P ∷ []) ∵ says ! y $ says ! x $ done !) (assoc∗ 𝓤 P (fact 𝓤 φ) (fact 𝓤 ψ))) })

-- X is the kind of memory. The signature has three lifetimes: the layout's, the memory's, and that of X.
module _ (X : RattleType) where
  abbrev R : RattleType
  R = param 0 X

  abbrev fn' : Fn
  fn' = inst_fn (layouts (a_type ∷ []) (X, tt)) code.function

  -- of the view nothing is had at exit: it is spent
  abbrev stayed : Stays (ended X).signature.params (ended X).kept
  stayed = (stay_dropped (plain (λ κs. the_row (named_lft 3 0 tt κs) (named_lft 3 1 tt κs) R)) no, tt)

module _ (X : RattleType) (L : Laws X) {M : Type 1} {𝓤 : Ura M} (𝓛 : Logic 𝓤) (memory : Memory → SProp 𝓤) (run : Routine → Fun 𝓤) where
  open 𝓛 use {H, A}

  abbrev held : Clauses 𝓤 (ended X)
  held = clauses X 𝓛 memory run

  module _ (κ κ' τ : Lft) (q q' s : Share) (bounds : AllOutlive 3 (ended X).signature.outlives (κ, (κ', (τ, tt)))) (h : View X.Denot) where
    abbrev It : RattleType
    It = the_row (named_lft 3 0 tt (κ, (κ', (τ, tt)))) (named_lft 3 1 tt (κ, (κ', (τ, tt)))) (R X)

    -- the result, its type and its machine value
    abbrev m : MutBor X.Denot
    m = h.queue.memory

    abbrev Out : RattleType
    Out = MutRef (named 1) κ' (R X)

    abbrev v : Val
    v = vptr m.ref_ptr.0 m.ref_ptr.1

    -- the view's machine value
    abbrev word : Val
    word = vstruct (vcons (vint w16 h.head) (vcons (vstruct (vcons (vptr h.queue.layout.ref_ptr.0 h.queue.layout.ref_ptr.1) (vcons v vnil))) vnil))

    abbrev bound : (walk_of 𝓛 (ended X) (stayed X) held).Ghost
    bound = (((κ, (κ', (τ, tt))), (q, (q', (s, tt))), bounds, (h, tt), (word ∷ [], tt)), tt)

    abbrev Post : Val → SProp 𝓤
    Post = (walk_of 𝓛 (ended X) (stayed X) held).post bound

    -- the end: the result and the tokens are what the contract asks back, and both clauses hold by `refl`, since the result is the view's own reference
    exits : ent 𝓤 (sep 𝓤 (sem 𝓛 (Out.own_val m (v ∷ []))) (sep 𝓤 (A.lft κ q) (sep 𝓤 (A.lft κ' q') (A.lft τ s)))) (Post v)
    exits =
        qed 𝓛 (‵ (Out.own_val m (v ∷ [])) ∷ ‵ (flft κ q) ∷ ‵ (flft κ' q') ∷ ‵ (flft τ s) ∷ []) ∵
        suffices ! _ (ends_at 𝓛 (ended X) (stayed X) held bound v m ((tt, ((tt, (tt, tt)), tt)), tt) (tt, tt)) $ say_both ! refl refl $
        nothing ! $ nothing ! $ fjoin ! $ join ! $ nothing ! $ move ! (4 ∷ 0 ∷ []) $ join ! $ move ! (3 ∷ 0 ∷ []) $ join ! $ move ! (2 ∷ 0 ∷ []) $ join ! $ join ! $ done !

    walk : (C : Calls 𝓤 H) (Λ : Loops 𝓤 H) → ent 𝓤 (on_entry 𝓛 (ended X).signature (κ, (κ', (τ, tt))) (q, (q', (s, tt))) (h, tt) (word ∷ [], tt)) (WpFn 𝓤 H C Λ (fn' X) (word ∷ []) Post)
    walk C Λ =
        qed 𝓛 ((‵ (flft κ q) ⊛ ‵ (flft κ' q') ⊛ ‵ (flft τ s) ⊛ ‵ ftrue) ∷ ‵ (owns (It ∷ []) (h, tt) (word ∷ [], tt)) ∷ []) ∵
        -- the view is taken apart: its head fits a number, and is let go
        move ! (1 ∷ []) $ fsplit ! $ fpick ! (λ vss. fsplit ! $ feq_l ! (λ ev. fsplit ! $ peeks ! u16 (Is u16) (shows 𝓛 u16) h.head vss.0 (λ told. drop ! $
        -- so is the queue: its layout is let go
        fsplit ! $ fpick ! (λ uss. fsplit ! $ feq_l ! (λ eu. fsplit ! $ drop ! $ fsplit ! $
        -- [the memory; true; true; true; the tokens]
        enter ! C Λ (fn' X) (word ∷ []) _ $ alloc_all ! (λ l. pass_all ! refl ((tt, (record { fits = told.1 }, ((tt, (tt, tt)), tt))), tt) $
        -- &mut *self.queue.memory
        sets ! (addr ! (from ! (fld ! refl (fld ! refl (hop ! (look_in_at ! 1 (sub ! 1 refl (sub ! 1 refl (whole !)))) (stop !)))))) refl (tt, tt) $
        -- the same borrow, at the machine value that is returned
        fsplit3 ! $ feq_l ! (λ e. feq_i ! (List Val) (v ∷ []) (v ∷ []) refl $ fjoin3 ! $ move ! (4 ∷ []) $ split ! $ move ! (1 ∷ []) $ split3 ! $
        -- [the memory's token; X's token; true; the layout's token; the memory; ..]
        returns ! (look_at ! 0 refl) $ free_all ! refl $ keep ! (4 ∷ 3 ∷ 0 ∷ 1 ∷ []) $ by ! exits)))))))

  -- nothing is said of the view at exit: of its head, its layout and its memory
  goes_view : Goes 𝓛 3 (plain (λ κs. the_row (named_lft 3 0 tt κs) (named_lft 3 1 tt κs) (R X))) no (stayed X).0
  goes_view κs x f vs ok =
      qed 𝓛 (‵ ftrue ∷ []) {P = H.⇛ (sem 𝓛 (fsep ftrue (fsep (fsep ftrue (fsep ftrue ftrue)) ftrue)))}
      (updating ! $ nothing ! $ fjoin ! $ nothing ! $ fjoin ! $ nothing ! $ move ! (1 ∷ 0 ∷ []) $ fjoin ! $ nothing ! $ fjoin ! $ at_once ! $ done !)

  -- the walk is for one machine value; by the view's laws that is the value passed. What is required, of X's lifetime, is not needed.
  meets : (𝓣 : Tables 𝓤 H) → Meets 𝓛 (ended X).signature (WpFn 𝓤 H 𝓣.C 𝓣.Λ (fn' X)) (closing 𝓛 (ended X) held)
  meets 𝓣 =
      walk_Meets 𝓛 (ended X) (stayed X) (goes_view, tt) held (WpFn 𝓤 H 𝓣.C 𝓣.Λ (fn' X)) (WpFn-mono 𝓤 H 𝓛.laws 𝓣 (fn' X))
      (walked 𝓛 (ended X) (stayed X) held (WpFn 𝓤 H 𝓣.C 𝓣.Λ (fn' X))
      (λ κs. (LL.vals (the_type (named_lft 3 0 tt κs) (named_lft 3 1 tt κs) (R X)) (the_laws (named_lft 3 0 tt κs) (named_lft 3 1 tt κs) (R X) (param_laws 0 X L)), tt))
      (λ κs. (LL.tells (the_type (named_lft 3 0 tt κs) (named_lft 3 1 tt κs) (R X)) (the_laws (named_lft 3 0 tt κs) (named_lft 3 1 tt κs) (R X) (param_laws 0 X L)), tt))
      (λ κs qs bounds a g are. via 𝓤 _ (fst∗ 𝓤 _ ((held κs a).requires g)) (walk κs.0 κs.1.0 κs.1.1.0 qs.0 qs.1.0 qs.1.1.0 bounds a.0 𝓣.C 𝓣.Λ)))

pub into_memory_spec : {M : Type 1} → stated.statement M
unfolding tables_of
into_memory_spec 𝓤 𝓛 𝓜 𝓡 wired X L =
    let A = 𝓛.A in
    let 𝓣 : Tables 𝓤 𝓛.H = tables_of 𝓤 𝓛.H 𝓜 (tables 𝓤 𝓛.H 𝓜 𝓡 𝓡.env) in
    entered 𝓤 𝓛.H (triple_of 𝓛 (ended X).signature (closing 𝓛 (ended X) (clauses X 𝓛 𝓜.mem 𝓡.returns))) 𝓣.C 𝓣.Λ (#self (layouts (a_type ∷ []) (X, tt))) (fn' X) (code.unfolded 𝓤 𝓛.H 𝓜 𝓡 wired (X, tt))
    (meets X L 𝓛 𝓜.mem 𝓡.returns 𝓣)
