mod Fit
