-- What follows from a result that is handed on.
use Rattle.std.specs.Prelude.{Result, Ok, Err, IsOk, OnOk, OnErr}

pub on_ok : {A E : Type 0} (r : Result A E) (P Q : Type 0) → (P → Q) → OnOk r P → OnOk r Q
on_ok (Ok a) P Q f h = f h
on_ok (Err e) P Q f h = tt

pub on_err : {A E : Type 0} (r : Result A E) (P Q : Type 0) → (P → Q) → OnErr r P → OnErr r Q
on_err (Ok a) P Q f h = tt
on_err (Err e) P Q f h = f h

pub either_way : {A E : Type 0} (r : Result A E) (P Q R : Type 0) → (P → R) → (Q → R) → OnOk r P → OnErr r Q → R
either_way (Ok a) P Q R one two ok err = one ok
either_way (Err e) P Q R one two ok err = two err

pub both_ok : {A E : Type 0} (r : Result A E) (P Q : Type 0) → OnOk r P → OnOk r Q → OnOk r (P × Q)
both_ok (Ok a) P Q one two = (one, two)
both_ok (Err e) P Q one two = tt

pub err_not : {A E : Type 0} (r : Result A E) (P : Type 0) → IsOk r → OnErr r P
err_not (Ok a) P ok = tt
err_not (Err e) P ok = absurd (cc (ok))

pub any_err : {A E : Type 0} (r : Result A E) (P : Type 0) → P → OnErr r P
any_err (Ok a) P p = tt
any_err (Err e) P p = p
