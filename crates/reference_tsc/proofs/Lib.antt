mod Scaling
