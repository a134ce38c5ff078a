mod Fitting
mod Lent
